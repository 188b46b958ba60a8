-- Section 4, each public field's store: all links of a node, as the Rust's `links`, a public `Vec`, is assigned, cut
-- or cleared. Causes of refusal, in their order: 13, 14 over a limit or at one, 7.
use Rattle.std.specs.Prelude.{ℕ, ◌<◌, ◌≤◌, Bool, List, [], ◌∷◌, ltb, leb, length, get_or, set}
use Rattle.numbers.specs.Refusals.{Cause, when, decided}
use Rattle.records.specs.Put.{put}
use Rattle.cells.specs.EntryForms.{with_range}
use Rattle.cells.specs.Memory.{Memory, memory, Left, unless, over_limit}
use Rattle.cells.specs.Add.{with_counts, done}
use Rattle.cells.specs.AddLink.{held_at}
use Rattle.cells.specs.Replace.{place_for, pool_after}
use Rattle.cells.specs.declared.ynd.Ynd.{Ynd}
use Rattle.numbers.specs.Refusals.{Answer}
use Rattle.numbers.specs.declared.refusal.Refusal.TheVariants.{TooShort, NoSuchPlace, AtLimit}
use Rattle.numbers.specs.declared.refusal.Lent.TheVariants as lent
use Rattle.cells.specs.declared.link.PathLink.{PathLink}
use Rattle.cells.specs.Nodes.{no_entry}

-- for n nodes, a place p, c new links, `after` links in all; a node's count is a byte, the count of all a number of
-- 32 bits
abbrev pub links_causes : Bool → ℕ → ℕ → ℕ → ℕ → ℕ → ℕ → List Cause
links_causes over n p c after nodes links =
    when (leb n p) NoSuchPlace
    ∷ when over AtLimit
    ∷ when (ltb 255 c) AtLimit
    ∷ when (ltb 4294967295 after) AtLimit
    ∷ when (ltb nodes n) (TooShort lent.Nodes)
    ∷ when (ltb links after) (TooShort lent.Links)
    ∷ []

unfoldable pub room_for_links : Bool → ℕ → ℕ → ℕ → ℕ → ℕ → ℕ → Answer
room_for_links over n p c after nodes links = decided (links_causes over n p c after nodes links)

-- where c new links of the node at p start, and how many links there are afterwards
abbrev pub links_start : Memory → ℕ → ℕ → ℕ
links_start m p c = place_for (get_or m.nodes p no_entry).link_id (held_at m.nodes p m.ynd.link_count) c
    m.ynd.link_count

abbrev pub links_after : Memory → ℕ → ℕ → ℕ
links_after m p c = pool_after (held_at m.nodes p m.ynd.link_count) c m.ynd.link_count

abbrev pub with_link_count : Ynd → ℕ → Ynd
with_link_count y l = with_counts y y.node_count l y.junction_count y.heightmap_count y.ref_count

abbrev pub links_call : Memory → ℕ → ℕ → Answer
links_call m p c =
    room_for_links (over_limit m.ynd) m.ynd.node_count p c (links_after m p c) (length m.nodes)
    (length m.links)

-- the memory with `new` as the links of the node at p
abbrev pub links_stored : Memory → ℕ → List PathLink → Memory
links_stored m p new =
    memory (with_link_count m.ynd (links_after m p (length new)))
    (set m.nodes p (with_range (get_or m.nodes p no_entry) (links_start m p (length new)) (length new)))
    (put m.links (links_start m p (length new)) new)
    m.junctions m.heights m.refs

unfoldable pub put_links : Memory → ℕ → List PathLink → Left
put_links m p new = unless (links_call m p (length new)) m (done (links_stored m p new))

-- the room that an accepted call has; no public function's contract cites this
pub record LinksRoom (n p c after nodes links : ℕ) : Type 0 where
  pub place : p < n
  pub few : c ≤ 255
  pub all_few : after ≤ 4294967295
  pub nodes_fit : n ≤ nodes
  pub links_fit : after ≤ links
