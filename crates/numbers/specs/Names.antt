-- Section 6: the names of cell files, over bytes.
use Rattle.std.specs.Prelude.{ℕ, ◌+◌, ◌-◌, ◌*◌, Bool, true, false, cond, ◌&&◌, ◌||◌, List, [], ◌∷◌, ◌++◌}
use Rattle.std.specs.Prelude.{length, take, drop, replicate, decimal, ◌==◌, nat_le, Option, Some, None, Result, Ok}
use Rattle.std.specs.Prelude.{Err}
use Rattle.numbers.specs.Grid.{area_id}
use Rattle.numbers.specs.declared.names.FileName.{FileName}
use Rattle.numbers.specs.declared.refusal.Refusal.{Refusal}

-- The words nodes and .ynd.
abbrev pub nodes : List ℕ
nodes = 110 ∷ 111 ∷ 100 ∷ 101 ∷ 115 ∷ []

abbrev pub ynd : List ℕ
ynd = 46 ∷ 121 ∷ 110 ∷ 100 ∷ []

-- ---- Section 6: `cell_file_name` gives its bytes and their count by value
-- The area in decimal, as std prints a number.
unfoldable pub name_of_area : ℕ → List ℕ
name_of_area n = nodes ++ decimal n ++ ynd

-- The bytes stand in an array of 13, zero beyond the name.
unfoldable pub named : List ℕ → FileName
named s = record { bytes = s ++ replicate (13 - length s) 0; count = length s }

unfoldable pub name_for : Result ℕ Refusal → Result FileName Refusal
unfolding name_of_area named
name_for (Ok n) = Ok (named (name_of_area n))
name_for (Err r) = Err r

abbrev pub cell_file_name : ℕ → ℕ → Result FileName Refusal
cell_file_name cx cy = name_for (area_id cx cy)

-- ---- Section 6: `area_id_from_file_name`
-- / and \
abbrev pub slash : ℕ → Bool
slash c = c == 47 || c == 92

-- what stands after the last of them: the best start so far, and what is left to look at
unfoldable pub base_from : List ℕ → List ℕ → List ℕ
base_from best [] = best
base_from best (c ∷ cs) = base_from (cond (slash c) cs best) cs

abbrev pub base_of : List ℕ → List ℕ
base_of s = base_from s s

-- ASCII letters in lower case
abbrev pub lower : ℕ → ℕ
lower c = cond (nat_le 65 c && nat_le c 90) (c + 32) c

-- s in lower case starts with the word
unfoldable pub starts : List ℕ → List ℕ → Bool
starts s [] = true
starts [] (d ∷ ds) = false
starts (c ∷ cs) (d ∷ ds) = lower c == d && starts cs ds

-- Rust's u32 parse, from the number so far: each byte a digit, and no number above 4294967295
unfoldable pub digits_from : ℕ → List ℕ → Option ℕ
digits_from n [] = Some n
digits_from n (c ∷ cs) = cond (nat_le 48 c && nat_le c 57 && nat_le (n * 10 + (c - 48)) 4294967295)
    (digits_from (n * 10 + (c - 48)) cs) None

unfoldable pub digits_of : List ℕ → Option ℕ
unfolding digits_from
digits_of [] = None
digits_of (c ∷ cs) = digits_from 0 (c ∷ cs)

-- one + may stand in front
unfoldable pub parsed : List ℕ → Option ℕ
unfolding digits_of
parsed [] = None
parsed (c ∷ cs) = cond (c == 43) (digits_of cs) (digits_of (c ∷ cs))

unfoldable pub area_of_base : List ℕ → Option ℕ
unfolding starts parsed
area_of_base b =
    cond (nat_le 9 (length b) && starts b nodes && starts (drop (length b - 4) b) ynd)
    (parsed (take (length b - 4 - 5) (drop 5 b)))
    None

unfoldable pub area_id_from_file_name : List ℕ → Option ℕ
unfolding area_of_base base_from
area_id_from_file_name s = area_of_base (base_of s)
