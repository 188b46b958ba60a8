-- The lines of a round, one by one.
use Prim.Native.Nat.{ℕ, zero, suc, ◌+◌, ◌<◌, ◌≤◌}
use native.Mathlib.Numerals.{add-one}
use mathlib.Core.Path.{◌≡◌, refl, sym, ap, ◌∙◌}
use mathlib.Core.List.{List, [], ◌∷◌, ◌++◌, map}
use lib.ListN.{length, get_or, drop}
use Rattle.std.proofs.Common.{append_assoc, append-nil}
use Rattle.std.proofs.lemmas.List.{drop_all, drop_more}
use Rattle.cells.specs.declared.node_entry.NodeEntry.{NodeEntry}
use Rattle.cells.specs.declared.link.PathLink.{PathLink}
use Rattle.cells.specs.Nodes.{no_entry, first_area}
use Rattle.cells.specs.Cell.{Node, node_at, no_node, no_body, first_of}
use Rattle.cells.specs.CellOf.{node_with}
use Rattle.walks.specs.declared.walk.End.{End}
use Rattle.printround.specs.Text.{steps_of, line_of, lines_of, head_of, end_of, round_of}

first_area_law : (links : List PathLink) (es : List NodeEntry) → first_area es ≡ first_of (map (node_with links) es)
unfolding first_area
first_area_law links [] = refl
first_area_law links (w ∷ es) = refl

-- a node's line does not go by its links, and where there is no node it is that of zeros
line_entry : (links : List PathLink) (es : List NodeEntry) (p k : ℕ)
    → line_of k (node_with [] (get_or es p no_entry)) ≡ line_of k (node_at (map (node_with links) es) p)
unfolding line_of steps_of no_node no_body
line_entry links [] p k = refl
line_entry links (w ∷ es) zero k = refl
line_entry links (w ∷ es) (suc p) k = line_entry links es p k

first_line : (ns : List Node) (ps : List ℕ) (k : ℕ) → k < length ps
    → lines_of ns k (drop k ps) ≡ line_of k (node_at ns (get_or ps k 0)) ++ lines_of ns (k + 1) (drop (k + 1) ps)
unfolding lines_of
first_line ns ps k h =
    ap (lines_of ns k) (drop_more ps k 0 h)
    ∙ (λ i. line_of k (node_at ns (get_or ps k 0)) ++ lines_of ns (sym (add-one k) i) (drop (k + 1) ps))

-- a line more behind the lines so far
pub line_more : (links : List PathLink) (es : List NodeEntry) (ps so_far next after whole : List ℕ) (w : NodeEntry)
    (k : ℕ)
    → k < length ps → w ≡ get_or es (get_or ps k 0) no_entry → next ≡ line_of k (node_with [] w)
    → after ≡ so_far ++ next → so_far ++ lines_of (map (node_with links) es) k (drop k ps) ≡ whole
    → after ++ lines_of (map (node_with links) es) (k + 1) (drop (k + 1) ps) ≡ whole
line_more links es ps so_far next after whole w k h found line grown e =
    let ns = map (node_with links) es in
    let rest = lines_of ns (k + 1) (drop (k + 1) ps) in
    let same : next ≡ line_of k (node_at ns (get_or ps k 0))
    = line ∙ ap (λ (x : NodeEntry). line_of k (node_with [] x)) found ∙ line_entry links es (get_or ps k 0) k in
    ap (λ (x : List ℕ). x ++ rest) grown
    ∙ append_assoc so_far next rest
    ∙ ap (λ (x : List ℕ). so_far ++ (x ++ rest)) same
    ∙ ap (λ (x : List ℕ). so_far ++ x) (sym (first_line ns ps k h))
    ∙ e

-- all lines are there
pub lines_done : (ns : List Node) (ps text whole : List ℕ) (k : ℕ) → length ps ≤ k
    → text ++ lines_of ns k (drop k ps) ≡ whole → text ≡ whole
unfolding lines_of
lines_done ns ps text whole k h e =
    sym (append-nil text) ∙ sym (ap (λ (x : List ℕ). text ++ lines_of ns k x) (drop_all k ps h)) ∙ e

-- the head, the lines and the end are the round
pub round_said : (links : List PathLink) (es : List NodeEntry) (choices : ℕ) (e : End) (places : List ℕ) (area : ℕ)
    (head visited last one two : List ℕ) → area ≡ first_area es → head ≡ head_of area choices
    → visited ≡ lines_of (map (node_with links) es) 0 places → last ≡ end_of e → one ≡ head ++ visited
    → two ≡ one ++ last
    → two ≡ round_of (map (node_with links) es) choices e places
round_said links es choices e places area head visited last one two own h v l first second =
    let ns = map (node_with links) es in
    second
    ∙ ap (λ (x : List ℕ). x ++ last) first
    ∙ (λ i. (h ∙ ap (λ (k : ℕ). head_of k choices) (own ∙ first_area_law links es)) i ++ v i ++ l i)
