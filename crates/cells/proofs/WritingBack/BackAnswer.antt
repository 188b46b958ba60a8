-- The answer that is found before anything is stored is the answer of writing and reading back.
use Prim.Native.Nat.{ℕ, ◌≤◌}
use mathlib.Core.Path.{◌≡◌, refl, sym, ap, ◌∙◌, subst}
use mathlib.Core.Bool.{Bool, true, false}
use mathlib.Core.List.{List, [], ◌++◌}
use lib.Dec.{ltb}
use lib.ListN.{length, take, drop, length-take}
use native.Mathlib.Omega.{arith}
use borrow.Author.Tests.{ltb-false}
use Rattle.cells.specs.Memory.{Memory, Left, short, unless as otherwise}
use Rattle.cells.specs.Checks.{root_read, arrays_found, arrays_check}
use Rattle.cells.specs.Read.{filled, read_of}
use Rattle.cells.specs.Blocks.{written}
use Rattle.cells.specs.Write.{WriteLeft, left, refuse, or_else, held, stored, write_call}
use Rattle.cells.specs.WriteRead.{Both, if_read, if_written, write_read_of}
use Rattle.cells.specs.BackCheck.{held_counts, lengths, back_tests, back_check}
use Rattle.cells.specs.BackAnswer.{back_answer}
use Rattle.records.specs.Sections.{bytes_of}
use Rattle.records.specs.declared.root.Root.{Root}
use Rattle.cells.specs.declared.arrays.Arrays.{Arrays}
use Rattle.cells.specs.declared.counts.Counts.{Counts}
use Rattle.cells.specs.WriteCounts.{Counted, Sized, SizedIfCounted}
use Rattle.std.specs.List.{All}
use Rattle.cells.proofs.Writing.WriteSteps.{counts_of, counts_refused, list_refused, goes_on}
use Rattle.cells.proofs.WritingBack.WrittenBack.{Told, write_told}
use Rattle.cells.proofs.WritingBack.BackCheck.{arrays_back, found_back, counted_back, refs_short, filled_back}
use Rattle.cells.proofs.WritingBack.BackCheck.{read_back, tested_first}
use Rattle.std.specs.Prelude.{Result, Ok, Err}
use Rattle.numbers.specs.Refusals.{Answer, refuse_if, unless, and_then}
use Rattle.numbers.specs.declared.refusal.Refusal.{Refusal}
use Rattle.numbers.specs.declared.refusal.Refusal.TheVariants.{TooShort}
use Rattle.numbers.specs.declared.refusal.Lent.TheVariants.{Section}

counted_are : (h : Memory) (k : Counts) → Counted h k → held_counts h ≡ k
counted_are h k r = λ i. record {
  nodes = sym r.nodes_are i;
  links = sym r.links_are i;
  junctions = sym r.junctions_are i;
  heights = sym r.heights_are i;
  refs = sym r.refs_are i;
}

-- the test of what is written, by the counts
pub back_told : (h : Memory) (lent k : Counts) → Counted h k → back_check h lent ≡ back_tests k lent
unfolding back_check
back_told h lent k r = ap (λ (c : Counts). back_tests c lent) (counted_are h k r)

-- ---- and what the call leaves

module _ (m : Memory) (s : List ℕ) where
  abbrev h : Memory
  h = held m

  abbrev pub length_back : ℕ
  length_back = length (written h)

  abbrev back : Answer
  back = back_check h (lengths m)

  abbrev refused_by : Refusal → Both
  refused_by cause = record { answer = Err cause; memory = m; section = s }

  -- what an accepted answer says
  pub record Accepted : Type 0 where
    pub told : Told h
    pub wrote : stored h s ≡ left (Ok length_back) (written h ++ drop length_back s)
    pub bytes : take length_back (written h ++ drop length_back s) ≡ written h
    pub room : length_back ≤ length s
    pub is : write_read_of m s
        ≡ record { answer = Ok length_back; memory = filled_back h told m; section = written h ++ drop length_back s }

  abbrev Means : Result Counts Refusal → Type 0
  Means (Err cause) = write_read_of m s ≡ refused_by cause
  Means (Ok k) = Accepted

  refused_so : (cause : Refusal) → refuse cause s ≡ write_call m s → write_read_of m s ≡ refused_by cause
  unfolding write_read_of
  refused_so cause e = ap (λ (w : WriteLeft). if_written w.answer w.section m s) (sym e)

  stored_so : (k : Counts) → All Sized h.junctions → stored h s ≡ write_call m s
      → stored h s ≡ left (Ok length_back) (written h ++ drop length_back s) → length_back ≤ length s → (d : Answer)
      → back ≡ d → Means (unless d (Ok k))
  unfolding write_call
  stored_so k sized stores e room d f = go d f
    where
      now : (write_call m s).section ≡ written h ++ drop length_back s
      now = ap (λ (w : WriteLeft). w.section) (sym stores ∙ e)

      answers : (write_call m s).answer ≡ Ok length_back
      answers = ap (λ (w : WriteLeft). w.answer) (sym stores ∙ e)

      tested : write_read_of m s ≡ if_read length_back (write_call m s).section back
          (read_of (written h) [] m).memory m s
      tested = tested_first m sized s length_back answers

      left_by : Answer → Told h → Left
      left_by c told = otherwise c m (record { answer = Ok tt; memory = filled_back h told m })

      go : (d : Answer) → back ≡ d → Means (unless d (Ok k))
      go (Err cause) t = tested ∙ ap (λ (c : Answer). if_read length_back (write_call m s).section c
          (read_of (written h) [] m).memory m s) t
      go (Ok tt) t =
          let w = write_told m sized s length_back answers in
          record {
            told = w.told;
            wrote = e;
            bytes = ap (take length_back) (sym now) ∙ w.bytes;
            room = room;
            is = tested ∙ (λ i. if_read length_back (now i) (t i) (read_back h w.told m i).memory m s)
                ∙ ap (λ (c : Answer). record {
                  answer = Ok length_back;
                  memory = (left_by c w.told).memory;
                  section = written h ++ drop length_back s;
                }) t;
          }

  by_room : (k : Counts) → All Sized h.junctions → stored h s ≡ write_call m s → (b : Bool)
      → ltb (length s) length_back ≡ b
      → Means (refuse_if b (TooShort Section) (unless back (Ok k)))
  unfolding stored
  by_room k sized e true t = refused_so (TooShort Section)
      (sym (ap (λ (b : Bool). or_else b (refuse (TooShort Section) s)
      (left (Ok length_back) (written h ++ drop length_back s))) t) ∙ e)
  by_room k sized e false t = stored_so k sized e
      (ap (λ (b : Bool). or_else b (refuse (TooShort Section) s)
      (left (Ok length_back) (written h ++ drop length_back s))) t) (ltb-false (length s) length_back t) back refl

  by_lists : (k : Counts) → All Sized h.junctions → counts_of h ≡ Ok k → (c : Answer) → short m ≡ c
      → Means (unless c (refuse_if (ltb (length s) length_back) (TooShort Section) (unless back (Ok k))))
  unfolding write_call
  by_lists k sized e (Err cause) t = refused_so cause (list_refused h (short m) s k e cause t)
  by_lists k sized e (Ok tt) t = by_room k sized (goes_on h (short m) s k e t) (ltb (length s) length_back) refl

  by_counts : SizedIfCounted h → (c : Result Counts Refusal) → counts_of h ≡ c
      → Means (and_then c λ k. unless (short m)
      (refuse_if (ltb (length s) length_back) (TooShort Section) (unless back (Ok k))))
  unfolding write_call
  by_counts sized (Err cause) e = refused_so cause (counts_refused h (short m) s cause e)
  by_counts sized (Ok k) e = by_lists k (sized k e) e (short m) refl

  means : SizedIfCounted h → Means (back_answer h (lengths m) (length s))
  unfolding back_answer held
  means sized = by_counts sized (counts_of h) refl

  -- by the cell that is written, and the lists' lengths, as the call has them
  module _ {c : Memory} {lent : Counts} {r : Result Counts Refusal} (is-h : c ≡ h) (is-lent : lent ≡ lengths m)
      (sized : SizedIfCounted c) (told : r ≡ back_answer c lent (length s)) where
    as_told : back_answer h (lengths m) (length s) ≡ r
    as_told = (λ i. back_answer (sym is-h i) (sym is-lent i) (length s)) ∙ sym told

    pub refused_back : {cause : Refusal} → r ≡ Err cause → write_read_of m s ≡ refused_by cause
    refused_back e = subst Means (as_told ∙ e) (means (subst SizedIfCounted is-h sized))

    pub accepted_back : {k : Counts} → r ≡ Ok k → Accepted
    accepted_back e = subst Means (as_told ∙ e) (means (subst SizedIfCounted is-h sized))

  -- what the call finds in the section t, where the cell c was stored
  module _ (acc : Accepted) {c : Memory} {t : List ℕ} {r : Result ℕ Refusal} (is-h : c ≡ h)
      (e : left r t ≡ stored c s) where
    ended : left r t ≡ left (Ok length_back) (written h ++ drop length_back s)
    ended = e ∙ (λ i. stored (is-h i) s) ∙ acc.wrote

    pub stored_back : r ≡ Ok length_back
    stored_back = ap (λ (w : WriteLeft). w.answer) ended

    now_back : t ≡ written h ++ drop length_back s
    now_back = ap (λ (w : WriteLeft). w.section) ended

    module _ {n : ℕ} (was : r ≡ Ok n) where
      as_long : n ≡ length_back
      as_long = let same : ◌≡◌ {A = Result ℕ Refusal} (Ok n) (Ok length_back) = sym was ∙ stored_back in cc

      bytes_back : take n t ≡ written h
      bytes_back = (λ i. take (as_long i) (now_back i)) ∙ acc.bytes

      pub inside_back : (n ≤ length t) × (n ≡ length (take n t))
      inside_back =
          let long : n ≡ length (take n t) = as_long ∙ sym (ap length bytes_back) in
          (omega (arith, long, length-take n t), long)

      module _ {root : Root} {f : Result Arrays Refusal} (is-root : root ≡ root_read (take n t))
          (found : f ≡ arrays_found root n 0) where
        root_is : root ≡ root_read (written h)
        root_is = is-root ∙ ap root_read bytes_back

        pub arrays_are : f ≡ Ok (arrays_back h acc.told)
        arrays_are = found ∙ (λ i. arrays_found (root_is i) (as_long i) 0) ∙ found_back h acc.told

        module _ {a : Arrays} {ns ls js hs rs : List ℕ} (is-a : f ≡ Ok a)
            (bytes : (ns ≡ bytes_of a.nodes (take n t) []) × (ls ≡ bytes_of a.links (take n t) [])
            × (js ≡ bytes_of a.junctions (take n t) []) × (hs ≡ bytes_of a.heights (take n t) [])
            × (rs ≡ bytes_of a.refs (take n t) [])) where
          same : a ≡ arrays_back h acc.told
          same = let q : ◌≡◌ {A = Result Arrays Refusal} (Ok a) (Ok (arrays_back h acc.told)) = sym is-a
              ∙ arrays_are in cc

          ns_are : ns ≡ bytes_of (arrays_back h acc.told).nodes (written h) []
          ns_are = bytes.0 ∙ (λ i. bytes_of (same i).nodes (bytes_back i) [])

          ls_are : ls ≡ bytes_of (arrays_back h acc.told).links (written h) []
          ls_are = bytes.1 ∙ (λ i. bytes_of (same i).links (bytes_back i) [])

          js_are : js ≡ bytes_of (arrays_back h acc.told).junctions (written h) []
          js_are = bytes.2 ∙ (λ i. bytes_of (same i).junctions (bytes_back i) [])

          hs_are : hs ≡ bytes_of (arrays_back h acc.told).heights (written h) []
          hs_are = bytes.3 ∙ (λ i. bytes_of (same i).heights (bytes_back i) [])

          rs_are : rs ≡ bytes_of (arrays_back h acc.told).refs (written h) []
          rs_are = bytes.4 ∙ (λ i. bytes_of (same i).refs (bytes_back i) [])

          pub few_back : length rs ≤ 16777216
          few_back = omega (arith, ap length rs_are, refs_short h acc.told)

          module _ {k : Counts} (ready : Counted c k) where
            counts_same : held_counts h ≡ k
            counts_same = ap held_counts (sym is-h) ∙ counted_are c k ready

            pub counted_so : arrays_check ns ls js hs rs ≡ Ok k
            counted_so =
                (λ i. arrays_check (ns_are i) (ls_are i) (js_are i) (hs_are i) (rs_are i))
                ∙ counted_back h acc.told ∙ ap Ok counts_same

            -- and what it leaves
            pub filled_so : {after : Memory} → after ≡ filled root k ns ls js hs rs m
                → record { answer = Ok n; memory = after; section = t } ≡ write_read_of m s
            filled_so q =
                (λ i. record { answer = Ok (as_long i); memory = q i; section = now_back i })
                ∙ (λ i. record {
                  answer = Ok length_back;
                  memory =
                      filled (root_is i) (sym counts_same i) (ns_are i) (ls_are i) (js_are i) (hs_are i) (rs_are i) m;
                  section = written h ++ drop length_back s;
                })
                ∙ sym acc.is
