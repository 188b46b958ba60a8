-- What a reader that is cut off after k bytes gives is the first k of its bytes.
use Rattle.std.proofs.Common.{ℕ, ◌≡◌, List, [], ◌++◌, take, Option, Some, None, IfSome}
use Rattle.std.specs.Option.{option_map}
use Rattle.printround.proofs.input_of.Goals as goal

cut_off : (k : ℕ) (items : List ℕ) (o : Option (List ℕ)) →
    IfSome (option_map (take k) o) (λ xs. items ≡ [] ++ xs) → IfSome o (λ bytes. items ≡ take k bytes)
cut_off k items None h = tt
cut_off k items (Some bytes) h = h

pub returns : goal.returns
returns g c =
    let h = c.in_ok-read_to_end.ensures.bytes in
    let by-limit = rw c.take.ensures.limit at h in
    let by-reader = rw c.take.ensures.inner at by-limit in
    let into-none = rw c.new-bytes.ensures.items at by-reader in
    cut_off 65537 c.read_to_end.new.buf.items (g.R.Read.remaining c.args.input) into-none
