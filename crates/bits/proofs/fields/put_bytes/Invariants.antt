-- `fields::put_bytes` meets its contract: what is stored and what is left of v add up to the same number in each turn. Assumes nothing.
use mathlib.Core.Path.{◌≡◌}
use Prim.Native.Nat.{◌+◌, ◌*◌, ◌^◌, ◌≤◌, ◌<◌}
use lib.ListN.{length}
use Rattle.digits.specs.Digits.{number}
use Rattle.bits.proofs.fields.put_bytes.Given as goal

abbrev pub invariant-loop-rest : goal.invariant-loop-rest
invariant-loop-rest l = (length l.out ≡ length l.initial.out) × (number l.out < 256 ^ l.i) × (l.rest * 256 ^ l.i + number l.out ≡ l.v * 256 ^ l.at + number l.initial.out) × (l.rest * 256 ^ l.i ≤ l.v * 256 ^ l.at)

abbrev pub decreases-loop-rest : goal.decreases-loop-rest
decreases-loop-rest l = l.rest
