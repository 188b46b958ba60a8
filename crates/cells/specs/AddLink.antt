-- Section 4, other calls: adding a link. It comes last of its node's links; the entries behind it move up by one, and
-- so do the ranges there. Causes of refusal, in their order: 13, 14, 7.
use Rattle.std.specs.Prelude.{ℕ, ◌+◌, ◌-◌, ◌≤◌, ◌<◌, Bool, cond, List, [], ◌∷◌, ◌++◌, map, eqb, ltb, leb}
use Rattle.std.specs.Prelude.{length, get_or, set, take, drop}
use Rattle.numbers.specs.Refusals.{when, decided}
use Rattle.cells.specs.EntryForms.{with_range}
use Rattle.cells.specs.Memory.{Memory, memory, Left, unless, over_limit}
use Rattle.cells.specs.Edit.{link_range, held_in}
use Rattle.cells.specs.Add.{more_links, done}
use Rattle.cells.specs.declared.link.PathLink.{PathLink}
use Rattle.numbers.specs.Refusals.{Answer}
use Rattle.numbers.specs.declared.refusal.Refusal.TheVariants.{TooShort, NoSuchPlace, AtLimit}
use Rattle.numbers.specs.declared.refusal.Lent.TheVariants as lent
use Rattle.cells.specs.declared.node_entry.NodeEntry.{NodeEntry}
use Rattle.cells.specs.Nodes.{no_entry}

-- how many of its links the node at p really has, of l
abbrev pub held_at : List NodeEntry → ℕ → ℕ → ℕ
held_at nodes p l = held_in (link_range nodes p) l

-- where the new link goes: behind the node's e links from s, and behind all if it has none
unfoldable pub behind : ℕ → ℕ → ℕ → ℕ
behind s e l = cond (eqb e 0) l (s + e)

abbrev pub at_in : List NodeEntry → ℕ → ℕ → ℕ
at_in nodes p l = behind (get_or nodes p no_entry).link_id (held_at nodes p l) l

-- the entry put in at a place of the first l; those behind it move up by one, over the entry at l
unfoldable pub inserted : {A : Type 0} → ℕ → ℕ → A → List A → List A
inserted at l x xs = (take at (take l xs) ++ (x ∷ drop at (take l xs))) ++ drop (l + 1) xs

-- a node whose range starts at or behind the new link; a start that no link has stays
unfoldable pub shifted : ℕ → ℕ → NodeEntry → NodeEntry
shifted at l n =
    cond (ltb n.link_id at) n (cond (leb l n.link_id) n (record n { link_id = n.link_id + 1 }))

unfoldable pub nodes_after : ℕ → ℕ → ℕ → List NodeEntry → List NodeEntry
nodes_after n l p nodes =
    set (map (shifted (at_in nodes p l) l) (take n nodes) ++ drop n nodes) p
    (with_range (get_or nodes p no_entry) (at_in nodes p l - held_at nodes p l) (held_at nodes p l + 1))

-- for n nodes, l links, a place p whose node has e links; the count of links is a number of 32 bits
unfoldable pub room_for_link : Bool → ℕ → ℕ → ℕ → ℕ → ℕ → ℕ → Answer
room_for_link over n l p e nodes links =
    decided
    (when (leb n p) NoSuchPlace
    ∷ when over AtLimit
    ∷ when (leb 4294967295 l) AtLimit
    ∷ when (leb 255 e) AtLimit
    ∷ when (ltb nodes n) (TooShort lent.Nodes)
    ∷ when (leb links l) (TooShort lent.Links)
    ∷ [])

unfoldable pub add_link : Memory → ℕ → PathLink → Left
add_link m p x =
    unless (room_for_link (over_limit m.ynd) m.ynd.node_count m.ynd.link_count p
    (held_at m.nodes p m.ynd.link_count) (length m.nodes) (length m.links)) m
    (done (memory (more_links m.ynd)
    (nodes_after m.ynd.node_count m.ynd.link_count p m.nodes)
    (inserted (at_in m.nodes p m.ynd.link_count) m.ynd.link_count x m.links)
    m.junctions m.heights m.refs))

-- the room that an accepted call has; no public function's contract cites this
pub record LinkRoom (n l p e nodes links : ℕ) : Type 0 where
  pub place : p < n
  pub few : l < 4294967295
  pub one_more : e < 255
  pub nodes_fit : n ≤ nodes
  pub links_fit : l < links
