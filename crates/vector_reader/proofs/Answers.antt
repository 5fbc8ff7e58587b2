-- The ways out of one vector's reading, over the kind: a refusal, and done. Assumes nothing.
use mathlib.Core.Path.{◌≡◌, refl, sym, ap, ap₂, ◌∙◌, subst}
use mathlib.Core.List.{List, ◌++◌}
use Prim.Native.Nat.{ℕ, ◌+◌, ◌^◌, ◌≤◌}
use native.Mathlib.Omega.{arith}
use lib.ListN.{length, take, drop}
use lib.Seq.{length-take-le}
use lib.Ieee.{Format}
use Rattle.std.specs.Prelude.{Result, Ok, Err}
use Rattle.std.specs.Result.{IsErrAnd}
use Rattle.std.proofs.lemmas.Result.{err_from_is_err_and}
use Rattle.digits.proofs.Lists.{lent, lent_is}
use Rattle.bits.specs.Words.{WordLaws}
use Rattle.bits.proofs.WordLists.{length-numbers, append-numbers, drop-numbers}
use Rattle.rules.specs.Kind.{max_s, meta_bytes}
use Rattle.rules.specs.Page.{meta_at}
use Rattle.rules.specs.Verdict.{Verdict, fine, verdict, settle, done_with, answer, after}
use Rattle.rules.specs.ReadVector.{Span, values_in, span_of, part_from, number_rows, read_vector_rows, vector_values, read_vector_of}
use Rattle.rules.specs.Calls.{ReadVector}
use Rattle.checks.specs.declared.check.Refusal.{Refusal}
use Rattle.rules.proofs.Reading.{Passed}
use Rattle.rules.proofs.ReadingVector.{Chosen, chosen-fine, vector_values_count}
use Rattle.checks.specs.Forms.{as_verdict, answered, FoundMeta}
use Rattle.checks.specs.declared.vector.Meta.{Meta}
use Rattle.checks.proofs.Refusals.{check_fine, refused-answer, refused-after}
use Rattle.decode.specs.Readable.{Readable, values_at}
use Rattle.vector_reader.proofs.Spans.{starts-inside}

-- the verdict on an output, said of its words as numbers
in_numbers : {A : Type 0} {as-number : A → ℕ} {as-numbers : List A → List ℕ} (laws : WordLaws as-number as-numbers) (fmt : Format) (v : ℕ) (bs : List ℕ) (out : List A)
    → verdict (read_vector_rows fmt v (length out) bs) ≡ verdict (read_vector_rows fmt v (length (as-numbers out)) bs)
in_numbers laws fmt v bs out = ap (λ (x : ℕ). verdict (read_vector_rows fmt v x bs)) (sym (length-numbers laws out))

-- all rows have passed; the vector's bytes are lent from its stored offset on, and as many places as it has values
pub record Ready {A : Type 0} (fmt : Format) (v : ℕ) (bs : List ℕ) (out : List A) (from n : ℕ) : Type 0 where
  pub passes : verdict (read_vector_rows fmt v (length out) bs) ≡ fine
  pub from_is : from ≡ (span_of bs v).from
  pub count-is : n ≡ values_in bs v

-- the check, asked of a format that is the output's
module _ {f fmt : Format} (ef : f ≡ fmt) (v : ℕ) (bs : List ℕ) {A : Type 0} (out : List A) (r : Result Unit Refusal) (e : as_verdict r ≡ verdict (read_vector_rows f v (length out) bs)) where
  its_verdict : as_verdict r ≡ verdict (read_vector_rows fmt v (length out) bs)
  its_verdict = e ∙ ap (λ (x : Format). verdict (read_vector_rows x v (length out) bs)) ef

  pub vector-refused : {as-number : A → ℕ} {as-numbers : List A → List ℕ} → WordLaws as-number as-numbers → (s : Result ℕ Refusal) (a : Refusal) → r ≡ Err a → IsErrAnd s (λ b. b ≡ a)
      → ReadVector fmt bs v (as-numbers out) (answered s) (as-numbers out)
  unfolding read_vector_of
  vector-refused {as-number} {as-numbers} laws s a g h =
      let p = err_from_is_err_and s h in
      let w : as_verdict (Err a) ≡ verdict (read_vector_rows fmt v (length (as-numbers out)) bs) = ap as_verdict (sym g) ∙ its_verdict ∙ in_numbers laws fmt v bs out in
      record {
        answer_is = ap answered p.1 ∙ ap (λ (b : Refusal). answered (Err b)) p.2 ∙ refused-answer a _ (vector_values fmt v bs) w;
        output_is = refused-after a _ (vector_values fmt v bs) w (as-numbers out);
      }

  module _ {u : Unit} (g : r ≡ Ok u) where
    pub numbered : verdict (number_rows v bs) ≡ fine
    numbered = (chosen-fine fmt v (length out) bs (check_fine r its_verdict g)).numbered

    -- so all is ready where the check gave fine, by what the two offsets and the count promise
    pub ready_at : {l : Span} {n : ℕ} → l ≡ span_of bs v → n ≡ values_in bs v → Ready fmt v bs out l.from n
    ready_at at few = record { passes = check_fine r its_verdict g; from_is = ap (λ (x : Span). x.from) at; count-is = few }

module _ {A : Type 0} {fmt : Format} {v : ℕ} {bs : List ℕ} {out : List A} {from n : ℕ} (q : Ready fmt v bs out from n) where
  abbrev part : List ℕ
  part = lent (8 + from) bs

  chosen : Chosen fmt v (length out) bs
  chosen = chosen-fine fmt v (length out) bs q.passes

  part_is : part ≡ part_from bs (span_of bs v)
  part_is = lent_is (8 + from) bs ∙ ap (λ (x : ℕ). drop (8 + x) bs) q.from_is

  vector-passed : Passed fmt n (meta_at fmt part) part
  vector-passed = rw (part_is, q.count-is) chosen.alone.passes

  pub meta_room : {f : Format} → f ≡ fmt → meta_bytes f ≤ length part
  meta_room ef = rw ef vector-passed.room

  pub start-inside : 8 + from ≤ length bs
  start-inside = starts-inside (meta_bytes fmt) from bs (omega arith) (subst (λ (x : List ℕ). meta_bytes fmt ≤ length x) (lent_is (8 + from) bs) (meta_room refl))

  pub enough : n ≤ length out
  enough = omega (arith, q.count-is, chosen.roomy)

  pub lent_many : n ≡ length (take n out)
  lent_many = sym (length-take-le n out enough)

  pub vector-readable : {f : Format} → f ≡ fmt → (m : Meta) → FoundMeta f part m → n ≤ 2 ^ max_s → Readable fmt (length (take n out)) part m
  vector-readable ef m found few =
      record { few = omega (arith, lent_many); found = subst (λ (x : Format). FoundMeta x part m) ef found; passed = subst (λ (x : ℕ). Passed fmt x (meta_at fmt part) part) lent_many vector-passed }

  values-are : values_at fmt (length (take n out)) part ≡ vector_values fmt v bs
  unfolding vector_values
  values-are = ap₂ (λ (x : ℕ) (y : List ℕ). values_at fmt x y) (sym lent_many ∙ q.count-is) part_is

  pub vector-done : {as-number : A → ℕ} {as-numbers : List A → List ℕ} → WordLaws as-number as-numbers → (last : List A) → as-numbers last ≡ values_at fmt (length (take n out)) part
      → ReadVector fmt bs v (as-numbers out) (done_with n) (as-numbers (last ++ drop n out))
  unfolding read_vector_of
  vector-done {as-number} {as-numbers} laws last e =
      let count : n ≡ length (vector_values fmt v bs) = q.count-is ∙ sym (vector_values_count fmt v bs) in
      let ok : verdict (read_vector_rows fmt v (length (as-numbers out)) bs) ≡ fine = sym (in_numbers laws fmt v bs out) ∙ q.passes in
      record {
        answer_is = ap done_with count ∙ sym (ap (λ (x : Verdict). answer (settle x (vector_values fmt v bs))) ok);
        output_is =
            append-numbers laws last (drop n out)
            ∙ ap₂ (λ (x y : List ℕ). x ++ y) (e ∙ values-are) (drop-numbers laws n out ∙ ap (λ (y : ℕ). drop y (as-numbers out)) count)
            ∙ sym (ap (λ (x : Verdict). after (settle x (vector_values fmt v bs)) (as-numbers out)) ok);
      }
