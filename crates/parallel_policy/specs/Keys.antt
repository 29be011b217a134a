-- By what the policy tells calls apart.
use Rattle.std.specs.Prelude.{ℕ, ◌+◌, ◌-◌, ◌*◌, ◌^◌, Bool, nat_eq, ◌==◌, ◌&&◌, bit_xor}
use Rattle.std.specs.Int.{w64, leading_zeros}
use Rattle.std.specs.Cmp.Lexicographic.{pointwise}
use Rattle.parallel_policy.specs.declared.key.Key.{Key}
use Rattle.parallel_policy.specs.declared.site.Site.{Site}

-- how many binary digits a number has, 0 for 0
abbrev pub binary_digits : ℕ → ℕ
binary_digits n = 64 - leading_zeros w64 n

-- the key of calls at a site, over lengths and works of that many digits, planned for that many
-- threads
abbrev pub key_of : Site → ℕ → ℕ → ℕ → Key
key_of site len work parallelism = record {
  file = site.file;
  line = site.line;
  column = site.column;
  len_bucket = binary_digits len;
  work_bucket = binary_digits work;
  parallelism = parallelism;
}

-- whether two keys are equal in each part, the name of the file by its bytes
abbrev pub same_key : Key → Key → Bool
same_key a b = pointwise nat_eq a.file.now b.file.now
    && ((a.line == b.line) && ((a.column == b.column)
    && ((a.len_bucket == b.len_bucket)
    && ((a.work_bucket == b.work_bucket) && (a.parallelism == b.parallelism)))))

-- the numbers of a key in one, by which it is hashed: the line and the column below, and above them
-- the number of threads, with the two buckets in its upper digits; the file isn't in it
abbrev pub key_number : Key → ℕ
key_number k = k.line + k.column * 2 ^ 32
    + bit_xor k.parallelism ((k.len_bucket * 2 ^ 8 + k.work_bucket) * 2 ^ 48) * 2 ^ 64
