-- A hash of one list after another.
use Rattle.commonware_parallel.proofs.Common.{◌≡◌, ◌<◌, ◌+◌, ◌∙◌, ℕ, List, [], ◌∷◌, ◌++◌, refl, sym, ap, take, get_or, length, take_more, mixed_in, mixed_all}

pub mixed_append : (hash : ℕ) (xs ys : List ℕ)
    → mixed_all hash (xs ++ ys) ≡ mixed_all (mixed_all hash xs) ys
mixed_append hash [] ys = refl
mixed_append hash (x ∷ xs) ys = mixed_append (mixed_in hash x) xs ys

-- one byte more
pub one_more : (start hash new : ℕ) (bytes : List ℕ) (i : ℕ) → i < length bytes
    → hash ≡ mixed_all start (take i bytes) → new ≡ mixed_in hash (get_or bytes i 0)
    → new ≡ mixed_all start (take (i + 1) bytes)
one_more start hash new bytes i below is more =
    more ∙ ap (λ (h : ℕ). mixed_in h (get_or bytes i 0)) is
    ∙ sym (mixed_append start (take i bytes) (get_or bytes i 0 ∷ []))
    ∙ ap (mixed_all start) (sym (take_more bytes i 0 below))

-- three values after the bytes
pub three_more : (start hash lined placed result line column len : ℕ) (bytes : List ℕ)
    → hash ≡ mixed_all start bytes → lined ≡ mixed_in hash line → placed ≡ mixed_in lined column
    → result ≡ mixed_in placed len
    → result ≡ mixed_all start (bytes ++ line ∷ column ∷ len ∷ [])
three_more start hash lined placed result line column len bytes is at_line at_column at_len =
    at_len ∙ ap (λ (h : ℕ). mixed_in h len)
    (at_column ∙ ap (λ (h : ℕ). mixed_in h column)
    (at_line ∙ ap (λ (h : ℕ). mixed_in h line) is))
    ∙ sym (mixed_append start bytes (line ∷ column ∷ len ∷ []))
