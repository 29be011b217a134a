-- A `&` to slots says nothing of them. Assumes `Logic`.
use Rattle.parallel_bridge.proofs.Walks.{RattleType, RawPtr, Laws, copy_shared, nothing_shr_laws, field_copy, of_Lends, Lends-nothing}
use Rattle.core.specs.contracts.marker.PhantomData as marker
use Rattle.parallel_bridge.specs.contracts.window.cells.Cells as cells
use Rattle.parallel_bridge.proofs.window.cells.Cells.TheLaw.Statement.{statement}

pub shares : (R : RattleType) (L : Laws R) → statement R L
shares R L =
    of_Lends (cells.struct R) (cells.the_codes R.Denot R.coded (marker.the_row RawPtr).coded)
    (cells.the_heap R) (cells.the_lent R) (λ d p. nothing_shr_laws)
    (copy_shared (marker.the_field RawPtr) (field_copy (marker.the_type RawPtr) tt), tt)
    (λ M 𝓤 𝓛 d p. Lends-nothing 𝓛 (cells.the_heap R d) (cells.the_row R).lives)
