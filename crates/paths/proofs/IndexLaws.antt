-- Chains of places by their nodes' numbers.
use Prim.Native.Nat.{ℕ, zero, suc, ◌+◌, ◌*◌, ◌/◌, ◌%◌, ◌<◌, ◌≤◌}
use native.Mathlib.Omega.{arith}
use native.Mathlib.Nat.{mod-lt}
use mathlib.Core.Path.{◌≡◌, refl, ap, sym, ◌∙◌, subst₂}
use mathlib.Core.List.{List}
use mathlib.Core.Logic.{◌⊎◌, inl, inr, ⊎_elim}
use lib.ListN.{length, get_or, set, length-set}
use lib.Seq.{get_or-set_same, get_or-set_other}
use Rattle.std.proofs.lemmas.Bool.{cases_eq}
use Rattle.std.proofs.lemmas.Nat.{div-mul-add, mod-mul-add}
use Rattle.cells.specs.LookupCall.{find_in, first_in}
use Rattle.cells.proofs.Lookups.LookupLaws.{first_at, first_no}
use Rattle.paths.specs.Scratch.{chain_at}
use Rattle.paths.proofs.ScratchLaws.{low_kept, high_put}
use Rattle.paths.specs.Index.{head_at, next_at, followed, headed, linked, First, Index, Found}
use Rattle.cells.specs.Nodes.{number_at}
use Rattle.paths.specs.Index.{Reach, here, there}
use mathlib.Core.Bool.{true, false}
use Rattle.std.specs.Option.{is_some}
use Rattle.std.specs.Prelude.{Option, Some, None}
use Rattle.cells.proofs.Lookups.LookupLaws.{find_at, find_other, find_past}
use Rattle.cells.specs.declared.node_entry.NodeEntry.{NodeEntry}
use Rattle.cells.specs.Nodes.{no_entry}

-- of the places with a number there is a first
first_of : (num : ℕ → ℕ) (k b j : ℕ) → j < b → num j ≡ k → (w : ℕ) × (w ≤ j) × (num w ≡ k) × First num w
first_of num k b j lt e = go b j lt e (seek j)
  where
    -- an earlier one, or none
    seek : (i : ℕ) → ((x : ℕ) × (x < i) × (num x ≡ k)) ⊎ ((x : ℕ) → x < i → num x ≡ k → ⊥)
    seek zero = inr (λ x lx q. omega arith)
    seek (suc i) = ⊎_elim
        (λ s. inl (s.0, omega (arith, s.1), s.2))
        (λ no. ⊎_elim
        (λ q. inl (i, omega arith, q))
        (λ nq. inr (λ x lx q. ⊎_elim (λ z. nq (ap num (sym z) ∙ q)) (λ nz. no x (omega arith) q) (cases_eq x i)))
        (cases_eq (num i) k))
        (seek i)

    go : (b j : ℕ) → j < b → num j ≡ k → ((x : ℕ) × (x < j) × (num x ≡ k)) ⊎ ((x : ℕ) → x < j → num x ≡ k → ⊥)
        → (w : ℕ) × (w ≤ j) × (num w ≡ k) × First num w
    go zero j lt e s = absurd (omega arith)
    go (suc b) j lt e s = ⊎_elim
        (λ x. let r = go b x.0 (omega (arith, x.1)) x.2 (seek x.0) in (r.0, omega (arith, r.1, x.1), r.2, r.3))
        (λ no. (j, omega arith, e, λ x lx q. no x lx (q ∙ e)))
        s

first_zero : (num : ℕ → ℕ) → First num 0
first_zero num j lt e = omega arith

-- every chain begins at place 0: that place is entered
pub index_none : (n : ℕ) (num head next : ℕ → ℕ) → 0 < n → ((h : ℕ) → h < n → head h ≡ 0) → Index n 1 num head next
index_none n num head next pos z = record {
  some = omega arith;
  within = omega arith;
  heads = λ h lt. rw (z h lt) (omega arith, first_zero num);
  nexts = λ v p lt. absurd (omega arith);
  all = λ w lt f. let e : w ≡ 0 = omega arith in rw (z (num w % n) (mod-lt (num w) pos), e) here;
}

-- ---- looking a number up

-- at the place v of a chain, with the number k looked for among the first i places
pub record Seeking (i : ℕ) (num next : ℕ → ℕ) (k v : ℕ) : Type 0 where
  pub within : v < i
  pub first : First num v
  pub ahead : (w : ℕ) → w < i → First num w → num w ≡ k → Reach next v w

module _ (n i : ℕ) (num head next : ℕ → ℕ) (x : Index n i num head next) (k : ℕ) where
  pub seek_start : 0 < n → (v : ℕ) → v ≡ head (k % n) → Seeking i num next k v
  seek_start pos v q =
      let h = x.heads (k % n) (mod-lt k pos) in
      rw q (record {
        within = h.0;
        first = h.1;
        ahead = λ w lw fw ew. ap_reach w ew (x.all w lw fw);
      })
    where
      ap_reach : (w : ℕ) → num w ≡ k → Reach next (head (num w % n)) w → Reach next (head (k % n)) w
      ap_reach w ew r = rw ew at r

  module _ (v : ℕ) (s : Seeking i num next k v) where
    pub seek_inside : v < n
    seek_inside = omega (arith, s.within, x.within)

    pub seek_on : 0 < v → (num v ≡ k → ⊥) → (d : ℕ) → d ≡ next v → Seeking i num next k d × (d < v)
    seek_on pos other d q =
        let t = x.nexts v pos s.within s.first in
        rw q (
          record {
            within = omega (arith, t.0, s.within);
            first = t.1;
            ahead = λ w lw fw ew. later w ew (s.ahead w lw fw ew);
          },
          t.0,
        )
      where
        later : (w : ℕ) → num w ≡ k → Reach next v w → Reach next (next v) w
        later w ew here = absurd (other ew)
        later w ew (there p r) = r

    pub seek_here : num v ≡ k → Found i num k (Some v)
    seek_here e = record {
      found = λ u q. let z : v ≡ u = cc in rw (← z) (s.within, e, s.first);
      absent = λ q. absurd (cc);
    }

    pub seek_none : v ≡ 0 → (num v ≡ k → ⊥) → Found i num k None
    seek_none z other = record {
      found = λ u q. absurd (cc);
      absent = λ q j lj ej. let r = first_of num k i j lj ej in ended r.0 r.2 r.3 (omega (arith, r.1));
    }
      where
        -- whatever place is first with the number, it would be in the chain
        ended : (w : ℕ) → num w ≡ k → First num w → w < i → ⊥
        ended w ew fw lw = at_zero w ew (s.ahead w lw fw ew)
          where
            at_zero : (w : ℕ) → num w ≡ k → Reach next v w → ⊥
            at_zero w ew here = other ew
            at_zero w ew (there p r) = omega arith

-- ---- entering a place

module _ (n i : ℕ) (num head next : ℕ → ℕ) (x : Index n i num head next) (li : i < n) where
  -- one with its number is entered already
  pub index_known : (r : ℕ) → Found i num (num i) (Some r) → Index n (i + 1) num head next
  index_known r f =
      let g = f.found r refl in
      let not_first : First num i → ⊥ = λ h. h r g.0 g.1 in
      record {
        some = omega arith;
        within = omega arith;
        heads = λ h lh. (omega (arith, (x.heads h lh).0), (x.heads h lh).1);
        nexts = λ w pos lw fw. ⊎_elim (λ q. absurd (not_first (rw q at fw))) (λ nq. x.nexts w pos (omega arith) fw)
            (cases_eq w i);
        all = λ w lw fw. ⊎_elim (λ q. absurd (not_first (rw q at fw))) (λ nq. x.all w (omega arith) fw) (cases_eq w i);
      }

  -- it is the first: the chain of its number begins with it
  module _ (f : Found i num (num i) None) (g d : ℕ → ℕ)
      (g-new : g (num i % n) ≡ i) (g-old : (h : ℕ) → h < n → (h ≡ num i % n → ⊥) → g h ≡ head h)
      (d-new : d i ≡ head (num i % n)) (d-old : (v : ℕ) → v < n → (v ≡ i → ⊥) → d v ≡ next v) where
    first_i : First num i
    first_i j lj e = f.absent refl j lj e

    lh : num i % n < n
    lh = mod-lt (num i) (omega arith)

    -- what was in a chain is there still
    kept : (v w : ℕ) → v < i → First num v → Reach next v w → Reach d v w
    kept v w lv fv here = here
    kept v w lv fv (there p q) =
        let t = x.nexts v p lv fv in
        let on = kept (next v) w (omega (arith, t.0)) t.1 q in
        let step : Reach d (d v) w = rw (d-old v (omega arith) (omega arith)) on in there p step

    pub index_new : Index n (i + 1) num g d
    index_new = record {
      some = omega arith;
      within = omega arith;
      heads = λ h hh. ⊎_elim
          (λ q. let z : g h ≡ i = ap g q ∙ g-new in rw z (omega arith, first_i))
          (λ nq. rw (g-old h hh nq) (omega (arith, (x.heads h hh).0), (x.heads h hh).1))
          (cases_eq h (num i % n));
      nexts = λ v pos lv fv. ⊎_elim
          (λ q. let hd = x.heads (num i % n) lh in let z : d v ≡ head (num i % n) = ap d q
          ∙ d-new in rw z (omega (arith, hd.0), hd.1))
          (λ nq. rw (d-old v (omega arith) nq) (x.nexts v pos (omega arith) fv))
          (cases_eq v i);
      all = λ w lw fw. ⊎_elim
          (λ q. let z : g (num w % n) ≡ w = ap (λ (y : ℕ). g (num y % n)) q ∙ g-new ∙ sym q in rw z here)
          (λ nq. old w (omega arith) fw (cases_eq (num w % n) (num i % n)))
          (cases_eq w i);
    }
      where
        reach : (w : ℕ) → w < i → First num w → Reach d (head (num w % n)) w
        reach w lw fw = let hd = x.heads (num w % n) (mod-lt (num w) (omega arith)) in kept (head (num w % n)) w
            hd.0 hd.1 (x.all w lw fw)

        old : (w : ℕ) → w < i → First num w → (num w % n ≡ num i % n) ⊎ (num w % n ≡ num i % n → ⊥)
            → Reach d (g (num w % n)) w
        old w lw fw (inl q) =
            let step : Reach d (d i) w = rw (d-new, ← q) (reach w lw fw) in
            let z : g (num w % n) ≡ i = ap g q ∙ g-new in
            rw z (there x.some step)
        old w lw fw (inr nq) = rw (g-old (num w % n) (mod-lt (num w) (omega arith)) nq) (reach w lw fw)

-- ---- the chains in the scratch

-- they stand in the fourth entries alone
pub index_same : (n i : ℕ) (num : ℕ → ℕ) (s t : List ℕ) → chain_at t ≡ chain_at s
    → Index n i num (head_at s) (next_at s) → Index n i num (head_at t) (next_at t)
unfolding head_at next_at
index_same n i num s t e x =
    subst₂ (λ (g d : ℕ → ℕ). Index n i num g d) (λ j h. sym e j h % 65536) (λ j v. sym e j v / 65536) x

module _ (n : ℕ) (s : List ℕ) (room : 4 * n ≤ length s) (v h : ℕ) (lv : v < n) (lh : h < n) (few : n ≤ 65536) where
  one : List ℕ
  one = followed s v h

  one_same : chain_at one v ≡ chain_at s v % 65536 + chain_at s h % 65536 * 65536
  unfolding one followed chain_at
  one_same = get_or-set_same s (4 * v + 3) _ 0 (omega arith)

  one_other : (k : ℕ) → (k ≡ v → ⊥) → chain_at one k ≡ chain_at s k
  unfolding one followed chain_at
  one_other k ne = get_or-set_other s (4 * v + 3) (4 * k + 3) _ 0 (omega arith)

  one_head : (k : ℕ) → head_at one k ≡ head_at s k
  unfolding head_at
  one_head k = ⊎_elim
      (λ q. ap (λ (j : ℕ). chain_at one j % 65536) q ∙ ap (λ (a : ℕ). a % 65536) one_same
      ∙ low_kept (chain_at s v) (chain_at s h % 65536) ∙ ap (λ (j : ℕ). chain_at s j % 65536) (sym q))
      (λ nq. ap (λ (a : ℕ). a % 65536) (one_other k nq))
      (cases_eq k v)

  one_next : next_at one v ≡ head_at s h
  unfolding head_at next_at
  one_next = ap (λ (a : ℕ). a / 65536) one_same ∙ high_put (chain_at s v) (chain_at s h % 65536)

  one_next_other : (k : ℕ) → (k ≡ v → ⊥) → next_at one k ≡ next_at s k
  unfolding next_at
  one_next_other k ne = ap (λ (a : ℕ). a / 65536) (one_other k ne)

  one_long : length one ≡ length s
  unfolding one followed
  one_long = length-set s (4 * v + 3) _

  two_same : chain_at (headed one h v) h ≡ chain_at one h / 65536 * 65536 + v
  unfolding headed chain_at
  two_same = get_or-set_same one (4 * h + 3) _ 0 (omega (arith, one_long))

  two_other : (k : ℕ) → (k ≡ h → ⊥) → chain_at (headed one h v) k ≡ chain_at one k
  unfolding headed chain_at
  two_other k ne = get_or-set_other one (4 * h + 3) (4 * k + 3) _ 0 (omega arith)

  two_next : (k : ℕ) → next_at (headed one h v) k ≡ next_at one k
  unfolding next_at
  two_next k = ⊎_elim
      (λ q. ap (λ (j : ℕ). chain_at (headed one h v) j / 65536) q ∙ ap (λ (a : ℕ). a / 65536) two_same
      ∙ div-mul-add (chain_at one h / 65536) 65536 v (omega arith) ∙ ap (λ (j : ℕ). chain_at one j / 65536) (sym q))
      (λ nq. ap (λ (a : ℕ). a / 65536) (two_other k nq))
      (cases_eq k h)

  linked_head : head_at (linked s v h) h ≡ v
  unfolding head_at linked one
  linked_head = ap (λ (a : ℕ). a % 65536) two_same ∙ mod-mul-add (chain_at one h / 65536) 65536 v (omega arith)

  linked_head_other : (k : ℕ) → k < n → (k ≡ h → ⊥) → head_at (linked s v h) k ≡ head_at s k
  unfolding head_at linked one
  linked_head_other k lk ne = ap (λ (a : ℕ). a % 65536) (two_other k ne) ∙ one_head k

  linked_next : next_at (linked s v h) v ≡ head_at s h
  unfolding linked one
  linked_next = two_next v ∙ one_next

  linked_next_other : (k : ℕ) → k < n → (k ≡ v → ⊥) → next_at (linked s v h) k ≡ next_at s k
  unfolding linked one
  linked_next_other k lk ne = two_next k ∙ one_next_other k ne

-- a place entered
module _ (n i : ℕ) (num : ℕ → ℕ) (s : List ℕ) (k : ℕ) (li : i < n) (x : Index n i num (head_at s) (next_at s))
    (e : k ≡ num i)
    {r : Option ℕ} (f : Found i num k r) where
  pub entered_known : is_some r ≡ true → Index n (i + 1) num (head_at s) (next_at s)
  entered_known q = go r (rw e at f) q
    where
      go : (r : Option ℕ) → Found i num (num i) r → is_some r ≡ true → Index n (i + 1) num (head_at s) (next_at s)
      go (Some v) f q = index_known n i num (head_at s) (next_at s) x li v f
      go None f q = absurd (cc)

  pub entered_new : is_some r ≡ false → (t : List ℕ) (h : ℕ) → n ≤ 65536 → 4 * n ≤ length s → h ≡ k % n → t
      ≡ linked s i h
      → Index n (i + 1) num (head_at t) (next_at t)
  entered_new q t h few room eh et = rw (et, eh, e)
      (index_new n i num (head_at s) (next_at s) x li (none r (rw e at f) q)
      (head_at (linked s i (num i % n))) (next_at (linked s i (num i % n)))
      (linked_head n s room i (num i % n) li lh few) (linked_head_other n s room i (num i % n) li lh few)
      (linked_next n s room i (num i % n) li lh few) (linked_next_other n s room i (num i % n) li lh few))
    where
      lh : num i % n < n
      lh = mod-lt (num i) (omega arith)

      none : (r : Option ℕ) → Found i num (num i) r → is_some r ≡ false → Found i num (num i) None
      none (Some v) f q = absurd (cc)
      none None f q = f

-- heads cleared
pub no_heads : (n : ℕ) (num : ℕ → ℕ) (s : List ℕ) → 0 < n → ((h : ℕ) → h < n → head_at s h ≡ 0)
    → Index n 1 num (head_at s) (next_at s)
no_heads n num s pos z = index_none n num (head_at s) (next_at s) pos z

pub head_cleared : (h : ℕ) (s : List ℕ) → 4 * h + 3 < length s → ((k : ℕ) → k < h → head_at s k ≡ 0) → (k : ℕ) → k
    < h + 1 → head_at (set s (4 * h + 3) 0) k ≡ 0
unfolding head_at chain_at
head_cleared h s inside z k lk = ⊎_elim
    (λ q. ap (λ (j : ℕ). get_or (set s (4 * h + 3) 0) (4 * j + 3) 0 % 65536) q
    ∙ ap (λ (a : ℕ). a % 65536) (get_or-set_same s (4 * h + 3) 0 0 (omega arith)))
    (λ nq. ap (λ (a : ℕ). a % 65536) (get_or-set_other s (4 * h + 3) (4 * k + 3) 0 0 (omega arith))
    ∙ z k (omega arith))
    (cases_eq k h)

-- what `node` finds, past the node at the number's own place
pub found_is : (nodes : List NodeEntry) (k : ℕ) (r : Option ℕ) → Found (length nodes) (number_at nodes) k r
    → r ≡ first_in (length nodes) nodes k
found_is nodes k (Some v) f =
    let g = f.found v refl in
    first_at nodes (length nodes) k no_entry (omega arith) v g.0 g.1 (λ j lj q. g.2 j lj (q ∙ sym g.1))
found_is nodes k None f = first_no nodes (length nodes) k no_entry (omega arith) (f.absent refl)

module _ (nodes : List NodeEntry) (n k : ℕ) (fits : n ≤ length nodes) where
  pub found_at : k < n → number_at nodes k ≡ k → Some k ≡ find_in n nodes k
  found_at = find_at nodes n k no_entry fits

  pub found_other : k < n → (number_at nodes k ≡ k → ⊥) → first_in n nodes k ≡ find_in n nodes k
  found_other = find_other nodes n k no_entry fits

  pub found_past : n ≤ k → first_in n nodes k ≡ find_in n nodes k
  found_past = find_past nodes n k no_entry fits

-- for the function that finds a node
pub ruleset find_laws = (found_at, found_other, found_past, found_is)
