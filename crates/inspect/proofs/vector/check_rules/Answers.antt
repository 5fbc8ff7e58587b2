-- `vector::check_rules` meets its contract: the rows in their order. Assumes nothing.
use Rattle.std.proofs.Common.{◌≡◌, ap, ◌∙◌, arith}
use Rattle.std.specs.Prelude.{Result}
use Rattle.std.specs.Result.{result_and}
use Rattle.rules.specs.Coded.{format_of, as_pair}
use Rattle.rules.specs.Vector.{Raw}
use Rattle.rules.specs.Verdict.{Verdict, first, verdict}
use Rattle.rules.specs.Examine.{needless, rules_rows}
use Rattle.rules.proofs.Encoded.{small_word}
use Rattle.checks.specs.declared.check.Refusal.{Refusal}
use Rattle.rules.proofs.Rows.{first-first}
use Rattle.checks.specs.Forms.{as_verdict}
use Rattle.checks.proofs.Refusals.{both-are}
use Rattle.inspect.specs.Seen.{position_rows}
use Rattle.inspect.specs.Looked.{raw_of}
use Rattle.inspect.proofs.Steps.{some_pair}
use Rattle.inspect.proofs.Parts.{one-vector}
use Rattle.inspect.proofs.vector.check_rules.Goals as goal

-- five checks, each joined to those before it
module _ (r₁ r₂ r₃ r₄ r₅ s₂ s₃ s₄ s₅ : Result Unit Refusal) {v w x y z : Verdict}
    (e₂ : s₂ ≡ result_and r₁ r₂) (e₃ : s₃ ≡ result_and s₂ r₃) (e₄ : s₄ ≡ result_and s₃ r₄) (e₅ : s₅ ≡ result_and s₄ r₅)
    (h₁ : as_verdict r₁ ≡ v) (h₂ : as_verdict r₂ ≡ w) (h₃ : as_verdict r₃ ≡ x) (h₄ : as_verdict r₄ ≡ y) (h₅ : as_verdict r₅ ≡ z) where
  five-are : as_verdict s₅ ≡ first v (first w (first x (first y z)))
  five-are =
      both-are s₅ s₄ r₅ e₅ (both-are s₄ s₃ r₄ e₄ (both-are s₃ s₂ r₃ e₃ (both-are s₂ r₁ r₂ e₂ h₁ h₂) h₃) h₄) h₅
      ∙ first-first (first (first v w) x) y z ∙ first-first (first v w) x (first y z) ∙ first-first v w (first x (first y z))

pub check_unused-requires : goal.check_unused-requires
check_unused-requires g c =
    let laid = c.args.vector.now.fields.laid some_pair 0 in
    (omega (arith, laid.narrow, small_word (format_of g.V.Value.KIND)), laid.many, laid.long)

pub returns : goal.returns
unfolding rules_rows
returns g c =
    let k = c.args.vector.now in
    let fmt = format_of g.V.Value.KIND in
    let p = as_pair k.scale.pair in
    let one = one-vector k.fields k.lists p k.one_count in
    let needless-are : as_verdict c.check_needless.result ≡ verdict (position_rows fmt 22 k.number (needless fmt p) (raw_of k)) =
    c.check_needless.ensures p (g.V.Word.as_number k.fields.frame) k.fields.width k.fields.packed.now ∙ ap (λ (r : Raw). verdict (position_rows fmt 22 k.number (needless fmt p) r)) one in
    five-are c.check_unused.result c.check_strays.result c.check_needless.result c.check_stand_ins.result c.check_frame.result c.and.result c.and-2.result c.and-3.result c.and-4.result c.and.ensures c.and-2.ensures
    c.and-3.ensures c.and-4.ensures c.check_unused.ensures c.check_strays.ensures needless-are (c.check_stand_ins.ensures p) (c.check_frame.ensures p k.lists.listed k.lists.bytes.now)
