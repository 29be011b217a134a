-- The texts of a line's words, from what a slice pattern reads of them.
use Rattle.shapes_command.proofs.Common.{◌≡◌, ◌-◌, ◌<◌, ◌∙◌, ℕ, List, [], length, take, drop, slice_index_or, ap, sym, subst, arith, string_bytes, String, true, Option, None, Some, inl, inr}
use Rattle.shapes_command.proofs.Common.{get_or-map, take_all, length-drop, Global, IsCountOrNone, CountsOrNone, word, HasForm}
use Rattle.std.specs.Str.{bytes_eq}
use Rattle.std.proofs.lemmas.Slice.Eq.{bytes_eq-Decides}
use Rattle.std.specs.declared.num.NonZeroUsize.{NonZeroUsize}

module _ (words : List (String Global)) (i : ℕ) (s : String Global) (text : List ℕ)
    (is : s ≡ slice_index_or words i s) (reads : text ≡ string_bytes s) where
  -- the text at a place is that of the word there
  pub word_at : i < length words → word words i ≡ text
  word_at below = get_or-map string_bytes words i s [] below ∙ ap string_bytes (sym is) ∙ sym reads

  -- what holds of the text of the word there holds of the text at the place
  pub of_word : (P : List ℕ → Type 0) → i < length words → P text → P (word words i)
  of_word P below p = subst P (sym (word_at below)) p

-- the word at a place that passed the test for a text is that text
pub is_text : (words : List (String Global)) (i : ℕ) (s : String Global) (text name : List ℕ)
    → i < length words → s ≡ slice_index_or words i s → text ≡ string_bytes s
    → true ≡ bytes_eq text name → word words i ≡ name
is_text words i s text name below is reads same = word_at words i s text is reads below
    ∙ (bytes_eq-Decides text name).0 (sym same)

-- the words from a place on, as a slice pattern reads them
pub rest_from : (words : List (String Global)) (i : ℕ)
    → take (length words - i) (drop i words) ≡ drop i words
rest_from words i = take_all (length words - i) (drop i words) (omega (arith, length-drop i words))

-- that many words, of which the first passed the test for a name
pub has_form : (words : List (String Global)) (count : ℕ) (s : String Global) (text name : List ℕ)
    → length words ≡ count → 0 < count → s ≡ slice_index_or words 0 s → text ≡ string_bytes s
    → true ≡ bytes_eq text name → HasForm words name count
has_form words count s text name counted some is reads same =
    (counted, is_text words 0 s text name (omega arith) is reads same)

-- a text that says a number or none is `-`, or writes the number
pub is_count_or_none : (most : ℕ) (text : List ℕ) (count : Option NonZeroUsize)
    → CountsOrNone most text count → IsCountOrNone most text
is_count_or_none most text None same = inl same
is_count_or_none most text (Some count) (writes, _) = inr writes
