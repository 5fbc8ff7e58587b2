-- The reader's ways out, over the kind: a refusal, and done. Assumes nothing.
use mathlib.Core.Path.{◌≡◌, refl, sym, ap, ◌∙◌}
use mathlib.Core.List.{List}
use Prim.Native.Nat.{ℕ, ◌≤◌}
use lib.ListN.{length}
use lib.Ieee.{Format}
use Rattle.std.specs.Prelude.{Result, Ok, Err}
use Rattle.std.specs.Result.{result_and, IsErrAnd}
use Rattle.std.proofs.lemmas.Result.{err_from_is_err_and}
use Rattle.digits.specs.Lists.{over}
use Rattle.bits.specs.Words.{WordLaws}
use Rattle.bits.proofs.WordLists.{length-numbers}
use Rattle.rules.specs.Page.{count_of}
use Rattle.rules.specs.Verdict.{row, Verdict, fine, verdict, the_page, ◌below◌, settle, done_with, answer, after}
use Rattle.rules.specs.Read.{page_rows, read_rows, values_of, read_of}
use Rattle.rules.specs.Calls.{Read}
use Rattle.checks.specs.declared.check.Refusal.{Refusal}
use Rattle.rules.proofs.Rows.{first-as}
use Rattle.rules.proofs.Reading.{page_fine}
use Rattle.rules.proofs.Decoded.{values-count}
use Rattle.checks.specs.Forms.{as_verdict, answered}
use Rattle.checks.proofs.Refusals.{both-are, check_fine, refused-answer, refused-after}
use Rattle.reader.proofs.Turns.{reader_head}

-- rows 1 to 14 and 17, then 15, which counts only where those have passed
pub in_order : (fmt : Format) (room : ℕ) (bs : List ℕ) (laid fits r : Result Unit Refusal) → as_verdict laid ≡ verdict (page_rows fmt bs)
    → (8 ≤ length bs → as_verdict fits ≡ verdict (row 15 the_page (room below count_of bs))) → r ≡ result_and laid fits → as_verdict r ≡ verdict (read_rows fmt room bs)
unfolding read_rows
in_order fmt room bs laid fits r el ef er =
    both-are r laid fits er el refl
    ∙ first-as (verdict (page_rows fmt bs)) (as_verdict fits) (verdict (row 15 the_page (room below count_of bs))) (λ ok. ef (page_fine fmt bs ok).0.eight)

-- the check, asked of a format that is the output's
module _ {f fmt : Format} (ef : f ≡ fmt) (bs : List ℕ) {A : Type 0} (out : List A) (r : Result Unit Refusal) (e : as_verdict r ≡ verdict (read_rows f (length out) bs)) where
  its_verdict : as_verdict r ≡ verdict (read_rows fmt (length out) bs)
  its_verdict = e ∙ ap (λ (x : Format). verdict (read_rows x (length out) bs)) ef

  module _ {u : Unit} (g : r ≡ Ok u) where
    pub reader_passes : verdict (read_rows fmt (length out) bs) ≡ fine
    reader_passes = check_fine r its_verdict g

    pub reader_eight : 8 ≤ length bs
    reader_eight = (reader_head fmt (length out) bs reader_passes).eight

  module _ {as-number : A → ℕ} {as-numbers : List A → List ℕ} (laws : WordLaws as-number as-numbers) where
    in_numbers : as_verdict r ≡ verdict (read_rows fmt (length (as-numbers out)) bs)
    in_numbers = its_verdict ∙ ap (λ (x : ℕ). verdict (read_rows fmt x bs)) (sym (length-numbers laws out))

    pub reader_refuses : (s : Result ℕ Refusal) (a : Refusal) → r ≡ Err a → IsErrAnd s (λ b. b ≡ a) → Read fmt bs (as-numbers out) (answered s) (as-numbers out)
    unfolding read_of
    reader_refuses s a g h =
        let p = err_from_is_err_and s h in
        let w : as_verdict (Err a) ≡ verdict (read_rows fmt (length (as-numbers out)) bs) = ap as_verdict (sym g) ∙ in_numbers in
        record {
          answer_is = ap answered p.1 ∙ ap (λ (b : Refusal). answered (Err b)) p.2 ∙ refused-answer a _ (values_of fmt bs) w;
          output_is = refused-after a _ (values_of fmt bs) w (as-numbers out);
        }

    pub reader_done : {u : Unit} → r ≡ Ok u → (count : ℕ) → count ≡ count_of bs → (end : List A) → as-numbers end ≡ over (values_of fmt bs) (as-numbers out)
        → Read fmt bs (as-numbers out) (done_with count) (as-numbers end)
    unfolding read_of
    reader_done g count ec end ee =
        let ok : verdict (read_rows fmt (length (as-numbers out)) bs) ≡ fine = check_fine r in_numbers g in
        record {
          answer_is = ap done_with (ec ∙ sym (values-count fmt bs)) ∙ sym (ap (λ (x : Verdict). answer (settle x (values_of fmt bs))) ok);
          output_is = ee ∙ sym (ap (λ (x : Verdict). after (settle x (values_of fmt bs)) (as-numbers out)) ok);
        }
