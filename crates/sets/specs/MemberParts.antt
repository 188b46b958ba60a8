-- What calls on a member go by. No public function's contract cites them.
use Rattle.std.specs.Prelude.{ℕ, ◌+◌, ◌-◌, ◌≤◌, cond, List, [], ◌∷◌, ltb, leb, length, get_or, take, drop}
use Rattle.numbers.specs.Refusals.{Cause, when, decided, unless}
use Rattle.cells.specs.Memory.{Memory, memory}
use Rattle.cells.specs.declared.ynd.Ynd.{Ynd}
use Rattle.sets.specs.CellSet.{CellSet, ynd_of}
use Rattle.cells.specs.Memory.{per_list}
use Rattle.sets.specs.SetParts.{starts_of, list_causes}
use Rattle.cells.specs.declared.counts.Counts.{Counts}
use Rattle.sets.specs.declared.member.MemberPart.{MemberPart}
use Rattle.std.specs.Prelude.{Result, Ok}
use Rattle.numbers.specs.declared.refusal.Refusal.{Refusal}
use Rattle.numbers.specs.declared.refusal.Refusal.TheVariants.{NoSuchPlace}

-- what a call on the member j is refused for, by the entries and the lists' lengths
unfoldable pub entry_ask : List (List ℕ) → Counts → ℕ → List Cause
entry_ask ws lens j =
    when (leb (length ws) j) NoSuchPlace ∷ list_causes ws lens.nodes lens.links lens.junctions lens.heights lens.refs

-- the member's `Ynd`, and where its parts start and end
unfoldable pub opened : List (List ℕ) → Counts → ℕ → Result MemberPart Refusal
opened ws lens j =
    unless (decided (entry_ask ws lens j))
    (Ok (record { ynd = ynd_of (get_or ws j []); a = starts_of ws j; e = starts_of ws (j + 1) }))

-- how many entries the parts in each list have together; no more than nine members are counted
unfoldable pub held_by : List (List ℕ) → Counts
held_by ws = cond (ltb 9 (length ws)) (per_list 0 0 0 0 0) (starts_of ws (length ws))

-- the part of a list from a up to e
abbrev pub between : {A : Type 0} → ℕ → ℕ → List A → List A
between a e l = take (e - a) (drop a l)

-- the five lists' parts from a up to e, as a cell's memory
abbrev pub part_memory : Ynd → Counts → Counts → CellSet → Memory
part_memory ynd a e y =
    memory ynd (between a.nodes e.nodes y.nodes) (between a.links e.links y.links)
    (between a.junctions e.junctions y.junctions) (between a.heights e.heights y.heights)
    (between a.refs e.refs y.refs)

-- the parts lie in lists of these lengths
pub record PartsLie (a e lens : Counts) : Type 0 where
  pub nodes_rise : a.nodes ≤ e.nodes
  pub nodes_end : e.nodes ≤ lens.nodes
  pub links_rise : a.links ≤ e.links
  pub links_end : e.links ≤ lens.links
  pub junctions_rise : a.junctions ≤ e.junctions
  pub junctions_end : e.junctions ≤ lens.junctions
  pub heights_rise : a.heights ≤ e.heights
  pub heights_end : e.heights ≤ lens.heights
  pub refs_rise : a.refs ≤ e.refs
  pub refs_end : e.refs ≤ lens.refs

-- the first n entries of the part from a up to e lie in a list of `len`, and have room in one of `have`
pub record Given (n a e len have : ℕ) : Type 0 where
  pub inside : a + n ≤ e
  pub end : e ≤ len
  pub room : n ≤ have

-- the member p's entries, in the set's lists and in lists of the caller
pub record Giving (p : MemberPart) (lens haves : Counts) : Type 0 where
  pub nodes : Given p.ynd.node_count p.a.nodes p.e.nodes lens.nodes haves.nodes
  pub links : Given p.ynd.link_count p.a.links p.e.links lens.links haves.links
  pub junctions : Given p.ynd.junction_count p.a.junctions p.e.junctions lens.junctions haves.junctions
  pub heights : Given p.ynd.heightmap_count p.a.heights p.e.heights lens.heights haves.heights
  pub refs : Given p.ynd.ref_count p.a.refs p.e.refs lens.refs haves.refs
