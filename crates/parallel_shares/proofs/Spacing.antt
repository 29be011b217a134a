-- Words that lie apart in a table are stepped on as if they lay side by side.
use Rattle.parallel_shares.proofs.Common.{◌≡◌, ℕ, zero, suc, ◌+◌, ◌-◌, ◌*◌, ◌<◌, List, [], ◌∷◌, ◌++◌, length, get_or, set, take, flat_map, take_more, refl, sym, ap, subst, ◌∙◌, arith, some, some-injective, some-ne-none, get_elem?, State, Me, Allows, Splits, Joins}
use Rattle.parallel_shares.proofs.Common.{line_of, spaced, place_of, share_at, used, Spaced}
use Rattle.std.proofs.lemmas.List.{get_or-append_right, set-append_right, ext_get_or, flat_map_more}

-- ---- where the words lie

pub get_spaced : (words : List ℕ) (share : ℕ)
    → get_or (spaced words) (place_of share) 0 ≡ get_or words share 0
unfolding spaced
get_spaced [] share = refl
get_spaced (x ∷ xs) zero = refl
get_spaced (x ∷ xs) (suc k) =
    let on : place_of (suc k) - 16 ≡ place_of k = omega arith in
    get_or-append_right (line_of x) (spaced xs) 16 (place_of (suc k)) 0 refl (omega arith)
    ∙ ap (λ i. get_or (spaced xs) i 0) on ∙ get_spaced xs k

pub set_spaced : (words : List ℕ) (share word : ℕ)
    → set (spaced words) (place_of share) word ≡ spaced (set words share word)
unfolding spaced
set_spaced [] share word = refl
set_spaced (x ∷ xs) zero word = refl
set_spaced (x ∷ xs) (suc k) word =
    let on : place_of (suc k) - 16 ≡ place_of k = omega arith in
    set-append_right (line_of x) (spaced xs) 16 (place_of (suc k)) word refl (omega arith)
    ∙ ap (λ ws. line_of x ++ ws) (ap (λ i. set (spaced xs) i word) on ∙ set_spaced xs k word)

pub length_spaced : (words : List ℕ) → length (spaced words) ≡ length words * 16
unfolding spaced
length_spaced [] = refl
length_spaced (x ∷ xs) = omega (arith, length_spaced xs)

pub spaced_none : spaced [] ≡ []
unfolding spaced
spaced_none = refl

-- one more word, as a loop over them lays it
pub spaced_more : (words : List ℕ) (i : ℕ) → i < length words
    → spaced (take i words) ++ line_of (get_or words i 0) ≡ spaced (take (i + 1) words)
unfolding spaced
spaced_more words i h =
    flat_map_more line_of [] (take i words) (get_or words i 0)
    ∙ ap (flat_map line_of) (sym (take_more words i 0 h))

pub share_at_place : (share : ℕ) → share_at (place_of share) ≡ share
share_at_place share = omega arith

-- what is read of a list stands there, at any default
pub read_at : (words : List ℕ) (i word d : ℕ) → get_elem? words i ≡ some word
    → get_or words i d ≡ word
read_at [] i word d e = absurd (some-ne-none word (sym e))
read_at (x ∷ xs) zero word d e = some-injective x word e
read_at (x ∷ xs) (suc i) word d e = read_at xs i word d e

-- words of which each was read at its place
pub all_read : (found words : List ℕ) → length found ≡ length words
    → ((share : ℕ) → share < length words
    → get_or found share 0 ≡ get_or (spaced words) (place_of share) 0)
    → found ≡ words
all_read found words long read =
    ext_get_or 0 found words long
    (λ share h. read share (omega (arith, h, long)) ∙ get_spaced words share)

-- ---- what a rule over them allows

module _ {S V : Type 0} (holds : State S V → Type 0) where
  pub allows_spaced : (slots id : ℕ) (me : Me S V) (share : ℕ) (f : ℕ → ℕ)
      (then : ℕ → Me S V → Type 0) → Allows holds slots id me share f then
      → Allows (Spaced holds) slots id me (place_of share) f then
  allows_spaced slots id me share f then allowed s k h e b =
      let words = k.0 in
      let is : get_or s.words (place_of share) 0 ≡ get_or words share 0 =
      ap (λ ws. get_or ws (place_of share) 0) k.1 ∙ get_spaced words share in
      let next : ℕ = f (get_or words share 0) in
      let step = allowed (used s words) k.2 h e (subst (λ n. n < 18446744073709551616) is b) in
      rw is (
        step.0,
        step.1,
        step.2,
        (
          set words share next,
          ap (λ ws. set ws (place_of share) next) k.1 ∙ set_spaced words share next,
          step.3,
        ),
        step.4,
      )

  pub splits_spaced : (id : ℕ) (v left right : V) → Splits holds id v left right
      → Splits (Spaced holds) id v left right
  splits_spaced id v left right kept s k e = (k.0, k.1, kept (used s k.0) k.2 e)

  pub joins_spaced : (id : ℕ) (v : V) (other : ℕ) (w both spent : V)
      → Joins holds id v other w both spent → Joins (Spaced holds) id v other w both spent
  joins_spaced id v other w both spent kept s k e apart at =
      (k.0, k.1, kept (used s k.0) k.2 e apart at)
