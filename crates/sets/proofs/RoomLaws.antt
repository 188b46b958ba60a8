-- What a set made by hand is refused for: limits, and lists that don't hold it.
use Rattle.std.proofs.lemmas.Bool.{not-false}
use Prim.Native.Nat.{ℕ, zero, suc, ◌+◌, ◌≤◌, ◌<◌}
use native.Mathlib.Omega.{arith}
use mathlib.Core.Path.{◌≡◌, refl, ap, sym, ◌∙◌}
use mathlib.Core.Bool.{Bool, true, false, cond, ◌||◌}
use mathlib.Core.List.{List, [], ◌∷◌}
use Rattle.std.specs.List.{list_any}
use lib.Dec.{ltb, leb}
use lib.ListN.{length, get_or, length-map}
use borrow.Author.Tests.{lt-ltb, le-ltb, leb-true, ltb-false}
use Rattle.numbers.specs.Refusals.{Cause, when, decided}
use Rattle.numbers.proofs.Refusing.{not_refused, passed}
use Rattle.cells.specs.Lists.{every}
use Rattle.cells.specs.Memory.{memory, over_limit}
use Rattle.cells.proofs.Sequences.Tests.{by_test, and_left, and_right, every_at, true_false}
use Rattle.sets.specs.Members.{map_from}
use Rattle.sets.specs.MemberList.{nodes_together, any_over, over_set}
use Rattle.sets.specs.CellSet.{CellSet, word, ynd_of, words_at, total, Parts, parts_in, member_with, members_of}
use Rattle.sets.specs.CellSet.{room_for, holds_list, lack_of, lack, set_causes}
use Rattle.sets.specs.SetParts.{Holding, Holds, bare, list_causes}
use Rattle.sets.proofs.SetLists.{length_from}
use Rattle.std.specs.Prelude.{Ok, Err}
use Rattle.numbers.specs.Refusals.{Answer}
use Rattle.numbers.specs.declared.refusal.Refusal.TheVariants.{AtLimit}

-- ---- limits

pub any_found : (ws : List (List ℕ)) (i : ℕ) → i < length ws → over_limit (ynd_of (get_or ws i [])) ≡ true → true
    ≡ any_over (bare ws)
unfolding any_over bare
any_found [] i lt e = absurd (omega arith)
any_found (w ∷ ws) zero lt e = rw e
any_found (w ∷ ws) (suc i) lt e = go (over_limit (ynd_of w)) (any_found ws i (omega arith) e)
  where
    go : (b : Bool) → true ≡ any_over (bare ws) → true ≡ b || any_over (bare ws)
    go true h = refl
    go false h = h

pub any_bare : (ws : List (List ℕ)) → list_any (λ w. over_limit (ynd_of w)) ws ≡ any_over (bare ws)
unfolding any_over bare
any_bare [] = refl
any_bare (w ∷ ws) = ap (λ (b : Bool). over_limit (ynd_of w) || b) (any_bare ws)

pub bare_many : (ws : List (List ℕ)) → length (bare ws) ≡ length ws
unfolding bare
bare_many ws = length-map ws (λ w. memory (ynd_of w) [] [] [] [] [])

pub bare_together : (ws : List (List ℕ)) → nodes_together (bare ws) ≡ total (words_at 10 ws)
unfolding nodes_together bare total words_at ynd_of
bare_together [] = refl
bare_together (w ∷ ws) = ap (λ (n : ℕ). word 10 w + n) (bare_together ws)

pub over_many : (ws : List (List ℕ)) → 9 < length ws → true ≡ over_set (bare ws)
unfolding over_set
over_many ws h = rw (bare_many ws, lt-ltb 9 (length ws) h)

pub over_nodes : (ws : List (List ℕ)) (n : ℕ) → length ws ≤ 9 → n ≡ total (words_at 10 ws) → 65536 < n → true
    ≡ over_set (bare ws)
unfolding over_set
over_nodes ws n h e l = rw (bare_many ws, le-ltb 9 (length ws) h, bare_together ws, ← e, lt-ltb 65536 n l)

pub over_else : (ws : List (List ℕ)) (n : ℕ) → length ws ≤ 9 → n ≡ total (words_at 10 ws) → n ≤ 65536
    → any_over (bare ws) ≡ over_set (bare ws)
unfolding over_set
over_else ws n h e l = rw (bare_many ws, le-ltb 9 (length ws) h, bare_together ws, ← e, le-ltb 65536 n l)

-- what a set that is over no limit has
pub few_members : (ws : List (List ℕ)) → over_set (bare ws) ≡ false → length ws ≤ 9
unfolding over_set
few_members ws e = by_test (ltb 9 (length ws)) (λ t. true_false (sym (over_true t) ∙ e))
    (λ f. ltb-false 9 (length ws) f)
  where
    over_true : ltb 9 (length ws) ≡ true → ltb 9 (length (bare ws))
        || (ltb 65536 (nodes_together (bare ws)) || any_over (bare ws)) ≡ true
    over_true t = rw (bare_many ws, t)

-- ---- the members' own limits are those of their entries

pub from_together : (p : Parts) (k : ℕ) (ws : List (List ℕ)) → nodes_together (map_from (member_with p) k ws)
    ≡ nodes_together (bare ws)
unfolding nodes_together bare map_from
from_together p k [] = refl
from_together p k (w ∷ ws) = ap (λ (n : ℕ). (ynd_of w).node_count + n) (from_together p (suc k) ws)

pub from_over : (p : Parts) (k : ℕ) (ws : List (List ℕ)) → any_over (map_from (member_with p) k ws)
    ≡ any_over (bare ws)
unfolding any_over bare map_from
from_over p k [] = refl
from_over p k (w ∷ ws) = ap (λ (b : Bool). over_limit (ynd_of w) || b) (from_over p (suc k) ws)

pub members_over : (y : CellSet) → over_set (members_of y) ≡ over_set (bare y.members)
unfolding over_set members_of
members_over y =
    let p = parts_in y in
    let ws = y.members in
    λ i. ltb 9 ((length_from (member_with p) 0 ws ∙ sym (bare_many ws)) i)
    || (ltb 65536 (from_together p 0 ws i) || from_over p 0 ws i)

-- ---- room

pub held_no : (k size : ℕ) (ws : List (List ℕ)) (len : ℕ) → every (room_for k size) ws ≡ false → false
    ≡ holds_list k size ws len
unfolding holds_list
held_no k size ws len e = rw e

pub held_yes : (k size : ℕ) (ws : List (List ℕ)) (len n : ℕ) → every (room_for k size) ws ≡ true → n
    ≡ total (words_at size ws) → leb n len ≡ holds_list k size ws len
unfolding holds_list
held_yes k size ws len n e en = rw (e, en)

pub holding : (k size : ℕ) (ws : List (List ℕ)) (len : ℕ) → holds_list k size ws len ≡ true → Holding k size ws len
unfolding holds_list
holding k size ws len t = record {
  fit = leb-true _ _ (and_right (every (room_for k size) ws) (leb (total (words_at size ws)) len) t);
  held = λ i lt. leb-true _ _ (every_at (room_for k size) ws i []
      (and_left (every (room_for k size) ws) (leb (total (words_at size ws)) len) t) lt);
}

-- of an accepted list the later causes are an accepted list
pub tail_done : (c : Cause) (cs : List Cause) → decided (c ∷ cs) ≡ (Ok tt) → decided cs ≡ (Ok tt)
tail_done c cs e = go c.fits (decided cs) e
  where
    go : (b : Bool) (a : Answer) → cond b (Err c.refusal) a ≡ (Ok tt) → a ≡ (Ok tt)
    go true a e = not_refused e
    go false a e = e

pub holds : (y : CellSet) → decided (lack y) ≡ (Ok tt) → Holds y
unfolding lack_of
holds y e = record {
  nodes_hold = holding _ _ _ _ (not-false _ (passed (lack y) 0 e));
  links_hold = holding _ _ _ _ (not-false _ (passed (lack y) 1 e));
  junctions_hold = holding _ _ _ _ (not-false _ (passed (lack y) 2 e));
  heights_hold = holding _ _ _ _ (not-false _ (passed (lack y) 3 e));
  refs_hold = holding _ _ _ _ (not-false _ (passed (lack y) 4 e));
}

-- the set's causes, by its entries and the lists' lengths
abbrev pub lists_of : CellSet → Answer
lists_of y = decided (list_causes y.members (length y.nodes) (length y.links) (length y.junctions)
    (length y.heights) (length y.refs))

pub causes_held : (y : CellSet) → decided (set_causes y) ≡ lists_of y
unfolding set_causes list_causes
causes_held y = rw (members_over y)

pub record Accepted (y : CellSet) : Type 0 where
  pub few : length y.members ≤ 9
  pub whole : Holds y

pub accepted : (y : CellSet) → (Ok tt) ≡ lists_of y → Accepted y
unfolding list_causes
accepted y e =
    let c = when (over_set (bare y.members)) AtLimit in
    record {
      few = few_members y.members (passed (c ∷ lack y) 0 (sym e));
      whole = holds y (tail_done c (lack y) (sym e));
    }

-- for the check
pub ruleset hold_laws = (held_no, held_yes)

-- for the check
pub ruleset limit_laws = (over_many, over_nodes, over_else)
