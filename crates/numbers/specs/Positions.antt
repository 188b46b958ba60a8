-- Section 3: a position and the steps that it is stored in.
use Rattle.numbers.specs.Steps.{step_of, unstep}
use Rattle.numbers.specs.declared.math.Vec3.{Vec3}
use Rattle.numbers.specs.declared.position.Quantised.{Quantised}

-- Section 3: x and y store as value × 4, z as value × 32.
abbrev pub quantised : Vec3 → Quantised
quantised p = record { x = step_of 2 p.x; y = step_of 2 p.y; z = step_of 5 p.z }

-- Section 3: reading divides by 4 or 32.
abbrev pub dequantised : Quantised → Vec3
dequantised q = record { x = unstep 2 q.x; y = unstep 2 q.y; z = unstep 5 q.z }
