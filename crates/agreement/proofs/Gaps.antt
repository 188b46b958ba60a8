-- A byte between the arrays may be anything.
-- Assumes nothing.
use Prim.Native.Nat.{ℕ, ◌+◌, ◌%◌, ◌≤◌, ◌<◌}
use native.Mathlib.Omega.{arith}
use mathlib.Core.Path.{◌≡◌, refl, sym, ap}
use mathlib.Core.List.{List}
use lib.ListN.{length, set, length-set}
use lib.Seq.{get_or-set_other}
use Rattle.records.specs.Bytes.{byte_at}
use Rattle.records.specs.Sections.{section_of}
use Rattle.cells.specs.Checks.{root_read}
use Rattle.records.specs.declared.section.Section.{Section}
use Rattle.records.specs.declared.section.Section.TheVariants.{System, Graphics}
use Rattle.records.specs.declared.section.Part.{Part}
use Rattle.agreement.specs.Agree.{Agree}
use Rattle.agreement.proofs.Agreed.{Places, places_by}
use Rattle.agreement.proofs.InPlace.{SameAt, agree_in_place}
use Rattle.std.specs.Prelude.{Option, Some}

-- offset k of the section c is no byte of the array at l
abbrev pub OutOf : Section → ℕ → Option Part → Type 0
OutOf c k l = (p : Part) → l ≡ Some p → p.section ≡ c → (q : ℕ) → q < p.len → p.offset + q ≡ k → ⊥

-- of none of the five
pub record Gap (c : Section) (k : ℕ) (p : Places) : Type 0 where
  pub nodes : OutOf c k p.nodes
  pub links : OutOf c k p.links
  pub junctions : OutOf c k p.junctions
  pub heights : OutOf c k p.heights
  pub refs : OutOf c k p.refs

other_byte : (l : List ℕ) (k x i : ℕ) → (i ≡ k → ⊥) → byte_at l i ≡ byte_at (set l k x) i
other_byte l k x i h = ap (λ (y : ℕ). y % 256) (sym (get_or-set_other l k i x 0 h))

module _ (s g : List ℕ) (k x : ℕ) (some : 0 < length s) where
  in_system : (l : Option Part) (counts : ℕ → Type 0) → OutOf System k l → SameAt l counts s g (set s k x) g
  in_system l counts out p e q lt c = go p.section refl
    where
      go : (z : Section) → p.section ≡ z → byte_at (section_of z s g) (p.offset + q)
          ≡ byte_at (section_of z (set s k x) g) (p.offset + q)
      go System is = other_byte s k x (p.offset + q) (out p e is q lt)
      go Graphics is = refl

  in_graphics : (l : Option Part) (counts : ℕ → Type 0) → OutOf Graphics k l → SameAt l counts s g s (set g k x)
  in_graphics l counts out p e q lt c = go p.section refl
    where
      go : (z : Section) → p.section ≡ z → byte_at (section_of z s g) (p.offset + q)
          ≡ byte_at (section_of z s (set g k x)) (p.offset + q)
      go System is = refl
      go Graphics is = other_byte g k x (p.offset + q) (out p e is q lt)

  -- in the system section, behind the root
  pub system_gap : 112 ≤ k → Gap System k (places_by (root_read s) (length s) (length g)) → Agree s g (set s k x) g
  system_gap behind out =
      agree_in_place s g (set s k x) g (sym (length-set s k x)) refl some
      (λ i low inside c. other_byte s k x i (λ e. omega arith))
      (record {
        nodes = in_system _ _ out.nodes;
        links = in_system _ _ out.links;
        junctions = in_system _ _ out.junctions;
        heights = in_system _ _ out.heights;
        refs = in_system _ _ out.refs;
      })

  -- in the graphics section
  pub graphics_gap : Gap Graphics k (places_by (root_read s) (length s) (length g)) → Agree s g s (set g k x)
  graphics_gap out =
      agree_in_place s g s (set g k x) refl (sym (length-set g k x)) some (λ i low inside c. refl)
      (record {
        nodes = in_graphics _ _ out.nodes;
        links = in_graphics _ _ out.links;
        junctions = in_graphics _ _ out.junctions;
        heights = in_graphics _ _ out.heights;
        refs = in_graphics _ _ out.refs;
      })
