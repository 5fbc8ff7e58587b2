-- `sizes::vector_size` meets its contract: a vector's bytes can be counted. Assumes nothing.
use mathlib.Core.Path.{ap, ap₂, ◌∙◌}
use Prim.Native.Nat.{ℕ, ◌+◌, ◌*◌}
use native.Mathlib.Omega.{arith}
use Rattle.rules.specs.Kind.{meta_bytes, word_bytes}
use Rattle.rules.specs.Coded.{format_of}
use Rattle.checks.proofs.Bounds.{few-listed}
use Rattle.checks.proofs.sizes.vector_size.Goals as goal

pub overflow_mul-result : goal.overflow_mul-result
overflow_mul-result c = omega (arith, few-listed c.args.listed c.value_bytes-word.result (omega arith) (omega arith))

pub overflow_add-result-2 : goal.overflow_add-result-2
overflow_add-result-2 c = omega (arith, few-listed c.args.listed c.value_bytes-word.result (omega arith) (omega arith))

pub overflow_add-result-3 : goal.overflow_add-result-3
overflow_add-result-3 c = omega (arith, few-listed c.args.listed c.value_bytes-word.result (omega arith) (omega arith))

pub returns : goal.returns
returns c =
    let a = c.args in
    ap₂ (λ (x y : ℕ). x + (c.packed_size-packed.result + a.listed * (2 + y))) c.meta_bytes.ensures.0 c.value_bytes-word.ensures.0
    ∙ ap (λ (x : ℕ). meta_bytes (format_of a.kind) + (x + a.listed * (2 + word_bytes (format_of a.kind)))) c.packed_size-packed.ensures.0
