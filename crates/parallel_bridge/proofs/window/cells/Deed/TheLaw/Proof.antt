-- A `&` to a right to free says nothing of it. Assumes `Logic`.
use Rattle.parallel_bridge.proofs.Walks.{RattleType, RawPtr, Laws, copy_shared, nothing_shr_laws, field_copy, of_Lends, Lends-nothing, Ghosts}
use Rattle.core.specs.contracts.marker.PhantomData as marker
use Rattle.parallel_bridge.specs.contracts.window.cells.Deed as deed
use Rattle.parallel_bridge.proofs.window.cells.Deed.TheLaw.Statement.{statement}

pub shares : (K A : RattleType) (g : Ghosts A.Denot) (L : Laws K) (P : Laws A) → statement K A g L P
shares K A g L P = of_Lends (deed.struct K A g) (deed.the_codes K.Denot A.Denot K.coded A.coded
    (marker.the_row RawPtr).coded) (deed.the_heap K A g) (deed.the_lent K A g)
    (λ d p. nothing_shr_laws)
    (copy_shared (marker.the_field RawPtr) (field_copy (marker.the_type RawPtr) tt), tt)
    (λ M 𝓤 𝓛 d p. Lends-nothing 𝓛 (deed.the_heap K A g d) (deed.the_row K A g).lives)
