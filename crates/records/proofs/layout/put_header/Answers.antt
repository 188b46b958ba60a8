-- The root's words, one behind the other; then the page block.
use Rattle.std.proofs.Common.{◌≡◌, ℕ, ◌+◌, ◌*◌, List, ◌++◌, length, replicate, sym, refl, ap, ◌∙◌, arith}
use lib.ListN.{set, length-append}
use Rattle.std.proofs.lemmas.List.{set-append_right}
use Rattle.records.specs.Root.{root_bytes}
use Rattle.records.specs.Bytes.{bytes32}
use Rattle.records.specs.Put.{put, joined}
use Rattle.records.specs.Layout.{pages, header_bytes}
use Rattle.records.proofs.Puts.{put_fits, put_part, part_long, set_inside, then, joined_ended}
use Rattle.records.proofs.RootWords.{words_joined}
use Rattle.records.proofs.Laid.{root_length, header_length}
use Rattle.records.proofs.layout.put_header.Goals as goal

-- zeros, but for 128 at their place 8
page_block : set (replicate 1040 0) 8 128 ≡ pages
unfolding pages
page_block = refl

pub returns-clause-section_after : goal.returns-clause-section_after
unfolding header_bytes
returns-clause-section_after c =
    let s = c.args.section.now in
    let r = c.args.root in
    let l = c.loop-i in
    let words = c.root_words-words.result in
    let w : List ℕ = root_bytes r in
    let z : List ℕ = replicate 1040 0 in
    let long : length w ≡ 112 = root_length r in
    let all : length (w ++ z) ≡ 1152 = length-append w z ∙ ap (λ (k : ℕ). k + 1040) long in
    let root : l.section ≡ put s 0 w
    = joined_ended bytes32 s l.section (joined bytes32 words) 0 (4 * l.i) words l.i (omega arith) l.invariant
    ∙ ap (put s 0) (ap (joined bytes32) c.root_words-words.ensures ∙ words_joined r (omega arith)) in
    let zeros : c.fill.new.self ≡ z
    = c.fill.ensures.after (λ y h. h) ∙ ap (λ (k : ℕ). replicate k 0) (part_long l.section 112 1040 (omega arith)) in
    let both = then s l.section _ 0 112 w z root (put_part l.section 112 1152 z c.fill.new.self zeros refl)
    (omega (arith, long)) (omega arith) in
    ap (λ (x : List ℕ). set x 120 128) both ∙ set_inside s (w ++ z) 120 128 (omega (arith, all))
    ∙ ap (put s 0) (set-append_right w z 112 120 128 long (omega arith) ∙ ap (λ (x : List ℕ). w ++ x) page_block)
    ∙ sym (put_fits s 0 (header_bytes r) (omega (arith, header_length r)))
