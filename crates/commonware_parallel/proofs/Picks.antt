-- Which path a pick is, or which number of parts; and which picks the inner strategies take.
use Rattle.commonware_parallel.proofs.Common.{◌≡◌, ◌∙◌, ℕ, Bool, true, false, ap, refl, nat_le, if◌then◌else◌, Path, Serial, body_call, nth_path}
use Rattle.commonware_parallel.proofs.Common.{None, Pick, By, Into, IsInnerOf, rules, subst, sym}
use Rattle.parallel_policy.specs.declared.Site.{Site}
use Rattle.commonware_parallel.specs.Explorers.{ExplorerRefuses, ExplorerTakes, ExplorerView, picked}
use Rattle.commonware_parallel.specs.Rayon.{RayonRefuses, RayonTakes, RayonView, chooses_of}
use Rattle.commonware_parallel.specs.declared.mocks.rule.Rule.TheVariants.{Serial as SerialRule}

abbrev path_of : Pick → Path
path_of (By path) = path
path_of (Into parts) = Serial

-- two picks that are one go by one path
pub one_path : (p q : Path) → By p ≡ By q → p ≡ q
one_path p q same = ap path_of same

serial_either_way : (b : Bool) → nth_path (if b then 0 else 0) ≡ Serial
serial_either_way true = refl
serial_either_way false = refl

-- an explorer by the serial rule runs a body serially
pub explored_serially : (explorer : ExplorerView) (site : Site) (len : ℕ) (path : Path)
    → explorer.rule ≡ SerialRule → ExplorerTakes explorer site (body_call len) (By path)
    → path ≡ Serial
explored_serially explorer site len path rule takes =
    ap path_of (takes.0 ∙ ap (λ r. picked (record explorer { rule = r }) site (body_call len)) rule)
    ∙ serial_either_way (nat_le explorer.planning 1)

-- without its policy a strategy takes one pick of a call, which it may take with one too
pub inner_of_rayon : (outer inner : RayonView) → inner ≡ record outer { policy = None }
    → IsInnerOf {S = RayonView} (λ strategy _ call pick. RayonTakes strategy call pick)
    (λ strategy _ call fault. RayonRefuses strategy call fault) (λ strategy. strategy.planning)
    (λ strategy. strategy.threads) (λ strategy. strategy.starts) outer inner
inner_of_rayon outer inner same =
    let planned : inner.planning ≡ outer.planning = ap (λ (s : RayonView). s.planning) same in
    let threaded : inner.threads ≡ outer.threads = ap (λ (s : RayonView). s.threads) same in
    let started : inner.starts ≡ outer.starts = ap (λ (s : RayonView). s.starts) same in
    let alone : chooses_of inner ≡ false = ap chooses_of same in
    search (rules, planned, threaded, started, alone)

-- an explorer takes one pick of a call, and its like the same one
pub inner_of_explorer : (outer inner : ExplorerView) → inner ≡ outer
    → IsInnerOf {S = ExplorerView} ExplorerTakes ExplorerRefuses (λ explorer. explorer.planning)
    (λ explorer. explorer.threads) (λ explorer. explorer.starts) outer inner
inner_of_explorer outer inner same = record {
  planned = ap (λ (e : ExplorerView). e.planning) same;
  threaded = ap (λ (e : ExplorerView). e.threads) same;
  started = ap (λ (e : ExplorerView). e.starts) same;
  settled = λ site call p q takes other. takes.0 ∙ sym other.0;
  within = λ site call pick takes. subst (λ e. ExplorerTakes e site call pick) same takes;
  unrefused = λ site call fault unspawned refused. unspawned refused.0;
}
