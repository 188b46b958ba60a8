-- Section 6: the f32 dot product of b - a with itself, each operation rounded, in the operation order of the Rust's
-- `math.rs`.
use Rattle.std.specs.Prelude.{Float}
use Rattle.std.specs.Float.{binary32}
use Rattle.std.specs.Float.Ieee.{add, sub, mul}
use Rattle.numbers.specs.declared.math.Vec3.{Vec3}

abbrev pub dot : Float → Float → Float → Float
dot x y z = add binary32 (add binary32 (mul binary32 x x) (mul binary32 y y)) (mul binary32 z z)

abbrev pub squared : Vec3 → Vec3 → Float
squared a b = dot (sub binary32 b.x a.x) (sub binary32 b.y a.y) (sub binary32 b.z a.z)
