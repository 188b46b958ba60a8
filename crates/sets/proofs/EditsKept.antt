-- A cell's own edit that is refused leaves its memory as it was.
use Prim.Native.Nat.{ℕ}
use native.Mathlib.Omega.{arith}
use mathlib.Core.Path.{◌≡◌, refl, ap, sym, ◌∙◌}
use mathlib.Core.List.{List}
use Rattle.numbers.specs.declared.math.Vec3.{Vec3}
use Rattle.cells.specs.Memory.{Memory, Left, unless}
use Rattle.cells.specs.Add.{done, add_node, add_junction, add_ref}
use Rattle.cells.specs.AddLink.{add_link}
use Rattle.cells.specs.PutLinks.{put_links}
use Rattle.cells.specs.PutHeightmap.{put_heightmap}
use Rattle.cells.specs.Truncate.{truncate_nodes, truncate_junctions, truncate_refs}
use Rattle.cells.specs.OwnWords.{with_own, with_vft, with_vehicles, with_peds, with_unknowns}
use Rattle.cells.specs.Edit.{change_at, put_node, set_position, put_link, put_junction, put_height, put_ref}
use Rattle.records.specs.declared.junction_ref.NodeJunctionRef.{NodeJunctionRef}
use Rattle.cells.specs.declared.ynd.Ynd.{Ynd}
use Rattle.cells.specs.declared.junction_entry.JunctionEntry.{JunctionEntry}
use Rattle.cells.specs.declared.link.PathLink.{PathLink}
use Rattle.cells.specs.declared.node.PathNode.{PathNode}
use Rattle.cells.specs.declared.junction.PathJunction.{PathJunction}
use Rattle.cells.specs.declared.node_entry.NodeEntry.{NodeEntry}
use Rattle.sets.specs.MemberEdit.{put_words}
use Rattle.cells.specs.Edit.{nodes_left, links_left, junctions_left, heights_left, refs_left}
use Rattle.std.specs.Prelude.{Result, Ok, Err}
use Rattle.numbers.specs.Refusals.{Answer}
use Rattle.numbers.proofs.Refusing.{not_refused}
use Rattle.numbers.specs.declared.refusal.Refusal.{Refusal}

-- what an edit is asked before all else
abbrev pub Kept : (Memory → Left) → Type 0
Kept edit = (m : Memory) (x : Refusal) → (edit m).answer ≡ Err x → (edit m).memory ≡ m

asked_kept : (a : Answer) (m n : Memory) (x : Refusal) → (unless a m (done n)).answer ≡ Err x
    → (unless a m (done n)).memory ≡ m
asked_kept (Ok tt) m n x e = let z : ◌≡◌ {A = ℕ} 0 1 = cc in absurd (omega arith)
asked_kept (Err c) m n x e = refl

stored_kept : {A : Type 0} (e : Result ℕ Refusal) (f : A → A) (d : A) (l : List A) (x : Refusal)
    → (change_at e f d l).answer ≡ Err x → (change_at e f d l).list ≡ l
stored_kept (Ok i) f d l x e = let z : ◌≡◌ {A = ℕ} 0 1 = cc in absurd (omega arith)
stored_kept (Err c) f d l x e = refl

pub add_node_kept : (area : ℕ) (at : Vec3) → Kept (λ m. add_node m area at)
unfolding add_node
add_node_kept area at m x e = asked_kept _ m _ x e

pub put_node_kept : (place : ℕ) (n : PathNode) → Kept (λ m. nodes_left m (put_node m.ynd m.nodes place n))
unfolding put_node
put_node_kept place n m x e =
    ap (λ (l : List NodeEntry). (nodes_left m (record { answer = (Ok tt); list = l })).memory)
    (stored_kept _ _ _ m.nodes x e)

pub add_link_kept : (p : ℕ) (l : PathLink) → Kept (λ m. add_link m p l)
unfolding add_link
add_link_kept p l m x e = asked_kept _ m _ x e

pub put_links_kept : (p : ℕ) (new : List PathLink) → Kept (λ m. put_links m p new)
unfolding put_links
put_links_kept p new m x e = asked_kept _ m _ x e

pub add_junction_kept : (j : PathJunction) (values : List ℕ) → Kept (λ m. add_junction m j values)
unfolding add_junction
add_junction_kept j values m x e = asked_kept _ m _ x e

pub put_heightmap_kept : (p w h : ℕ) (values : List ℕ) → Kept (λ m. put_heightmap m p w h values)
unfolding put_heightmap
put_heightmap_kept p w h values m x e = asked_kept _ m _ x e

pub add_ref_kept : (r : NodeJunctionRef) → Kept (λ m. add_ref m r)
unfolding add_ref
add_ref_kept r m x e = asked_kept _ m _ x e

pub truncate_nodes_kept : (k : ℕ) → Kept (λ m. truncate_nodes m k)
unfolding truncate_nodes
truncate_nodes_kept k m x e = asked_kept _ m _ x e

pub truncate_junctions_kept : (k : ℕ) → Kept (λ m. truncate_junctions m k)
unfolding truncate_junctions
truncate_junctions_kept k m x e = asked_kept _ m _ x e

pub truncate_refs_kept : (k : ℕ) → Kept (λ m. truncate_refs m k)
unfolding truncate_refs
truncate_refs_kept k m x e = asked_kept _ m _ x e

pub set_position_kept : (p : ℕ) (at : Vec3) → Kept (λ m. nodes_left m (set_position m.ynd m.nodes p at))
unfolding set_position
set_position_kept p at m x e =
    ap (λ (l : List NodeEntry). (nodes_left m (record { answer = (Ok tt); list = l })).memory)
    (stored_kept _ _ _ m.nodes x e)

pub put_link_kept : (p k : ℕ) (l : PathLink) → Kept (λ m. links_left m (put_link m.ynd m.nodes m.links p k l))
unfolding put_link
put_link_kept p k l m x e =
    ap (λ (t : List PathLink). (links_left m (record { answer = (Ok tt); list = t })).memory)
    (stored_kept _ _ _ m.links x e)

pub put_junction_kept : (p : ℕ) (j : PathJunction) → Kept (λ m. junctions_left m (put_junction m.ynd m.junctions p j))
unfolding put_junction
put_junction_kept p j m x e =
    ap (λ (l : List JunctionEntry). (junctions_left m (record { answer = (Ok tt); list = l })).memory)
    (stored_kept _ _ _ m.junctions x e)

pub put_height_kept : (p k v : ℕ) → Kept (λ m. heights_left m (put_height m.ynd m.junctions m.heights p k v))
unfolding put_height
put_height_kept p k v m x e =
    ap (λ (l : List ℕ). (heights_left m (record { answer = (Ok tt); list = l })).memory)
    (stored_kept _ _ _ m.heights x e)

pub put_ref_kept : (p : ℕ) (r : NodeJunctionRef) → Kept (λ m. refs_left m (put_ref m.ynd m.refs p r))
unfolding put_ref
put_ref_kept p r m x e =
    ap (λ (l : List NodeJunctionRef). (refs_left m (record { answer = (Ok tt); list = l })).memory)
    (stored_kept _ _ _ m.refs x e)

pub put_words_kept : (vft vehicles peds : ℕ) (u : List ℕ) → Kept (λ m. put_words m vft vehicles peds u)
put_words_kept vft vehicles peds u m x e = not_refused (sym e)

-- all of them, one after the other
pub words_put : (y a b c d : Ynd) (vft vehicles peds : ℕ) (u : List ℕ) → a ≡ with_vft y vft → b
    ≡ with_vehicles a vehicles
    → c ≡ with_peds b peds → d ≡ with_unknowns c u → d ≡ with_own y vft vehicles peds u
unfolding with_own
words_put y a b c d vft vehicles peds u ea eb ec ed =
    ed ∙ ap (λ (z : Ynd). with_unknowns z u)
    (ec ∙ ap (λ (z : Ynd). with_peds z peds) (eb ∙ ap (λ (z : Ynd). with_vehicles z vehicles) ea))
