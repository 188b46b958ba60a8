-- What is printed, in the order of the frame's tests.
use Prim.Native.Nat.{ℕ, ◌+◌, ◌-◌, ◌≤◌, ◌<◌}
use native.Mathlib.Omega.{arith}
use mathlib.Core.Path.{◌≡◌, ap, ◌∙◌}
use mathlib.Core.List.{List}
use lib.ListN.{length, take, drop}
use Rattle.std.proofs.lemmas.Bool.{lt-ltb, le-ltb}
use Rattle.std.proofs.lemmas.List.{take_rest}
use Rattle.records.specs.Bytes.{le32}
use Rattle.printround.specs.Text.{bad_input}
use Rattle.printround.specs.Printed.{section_of, printed}

module _ (input : List ℕ) where
  pub over_size : 65536 < length input → bad_input ≡ printed input
  unfolding printed
  over_size h = rw (lt-ltb _ _ h)

  module _ (small : length input ≤ 65536) where
    pub no_length : length input < 4 → bad_input ≡ printed input
    unfolding printed
    no_length h = rw (le-ltb _ _ small, lt-ltb _ _ h)

    module _ (n : ℕ) (said : n ≡ le32 input 0) (four : 4 ≤ length input) where
      pub cut_off : length input - 4 < n → bad_input ≡ printed input
      unfolding printed
      cut_off h =
          let g : length input - 4 < le32 input 0 = omega arith in
          rw (le-ltb _ _ small, le-ltb _ _ four, lt-ltb _ _ g)

      pub framed : (section file : List ℕ) → n ≤ length input - 4 → section ≡ take n (drop 4 input)
          → file ≡ drop (4 + n) input → section_of section file ≡ printed input
      unfolding printed
      framed section file h s f =
          let g : le32 input 0 ≤ length input - 4 = omega arith in
          (λ i. section_of (s i) (f i))
          ∙ ap (λ (k : ℕ). section_of (take k (drop 4 input)) (drop (4 + k) input)) said
          ∙ rw (le-ltb _ _ small, le-ltb _ _ four, le-ltb _ _ g)

-- for the function that reads the frame
pub ruleset frame_laws = (over_size, no_length, cut_off, framed, take_rest)
