use Rattle.std.proofs.Common.{◌≡◌, ◌*◌, drop}
use Rattle.records.specs.Bytes.{bytes32}
use Rattle.records.specs.Put.{put, joined}
use Rattle.records.proofs.layout.put_header.Given as goal

-- what remains, put into the section as it stands, gives the whole
abbrev pub invariant-loop-i : goal.invariant-loop-i
invariant-loop-i l = put l.section (4 * l.i) (joined bytes32 (drop l.i l.word-items))
    ≡ put l.initial.section 0 (joined bytes32 l.word-items)
