-- One turn of the examiner's loop over the vectors, and its answer, over the kind: how far it has come. Assumes nothing.
use mathlib.Core.Path.{◌≡◌, refl, sym, ap, ◌∙◌, subst}
use mathlib.Core.List.{List}
use Prim.Native.Nat.{ℕ, ◌+◌, ◌-◌, ◌*◌, ◌^◌, ◌≤◌, ◌<◌, min}
use native.Mathlib.Numerals.{add-one}
use native.Mathlib.Omega.{arith}
use lib.ListN.{length, drop}
use lib.Ieee.{Format}
use Rattle.std.specs.Prelude.{Result, Ok, Err}
use Rattle.std.specs.Result.{IsErrAnd}
use Rattle.std.proofs.lemmas.Result.{err_from_is_err_and}
use Rattle.digits.proofs.Lists.{lent, lent_is}
use Rattle.rules.specs.Kind.{meta_bytes, max_s}
use Rattle.rules.specs.Vector.{Raw}
use Rattle.rules.specs.Page.{s_of, count_of, vectors_of, vector_size, meta_at, raws_of}
use Rattle.rules.specs.Verdict.{Verdict, fine, first, verdict, settle, answer, done_with}
use Rattle.rules.specs.Read.{page_rows, values_of}
use Rattle.rules.specs.Examine.{rules_rows, all_rules_rows, examine_rows, examine_of}
use Rattle.rules.specs.Calls.{Examined}
use Rattle.checks.specs.declared.check.Refusal.{Refusal}
use Rattle.rules.proofs.Rows.{first_fine}
use Rattle.rules.proofs.Reading.{Passed, page_fine}
use Rattle.rules.proofs.Decoded.{values-count}
use Rattle.checks.specs.Forms.{FoundMeta, as_meta, as_verdict, answered, raw_at}
use Rattle.checks.specs.declared.vector.Meta.{Meta}
use Rattle.checks.proofs.Refusals.{check_fine, stops, continues, refused-answer}
use Rattle.checks.proofs.Turns.{vectors-left, vectors_passed_start, vector-passed, vectors-passed, raws_left, raws_turn, raws_start, raws_end, ends_inside}

-- the rows of the vectors before number v pass; the next one is at offset `at` and has its share of `left` values, and the layout of all
-- others has passed
pub record Examining (fmt : Format) (page : List ℕ) (size many v at left : ℕ) : Type 0 where
  pub within : v ≤ many
  pub inside : 8 + at ≤ length page
  pub passes : verdict (vectors-left fmt page size many v at left) ≡ fine
  pub rows : verdict (all_rules_rows fmt 0 (raws_of fmt page)) ≡ verdict (all_rules_rows fmt v (raws_left fmt page size many v at left))

pub examining_start : (fmt : Format) (page : List ℕ) (size many left : ℕ) → size ≡ 2 ^ s_of page → many ≡ vectors_of page → left ≡ count_of page → verdict (page_rows fmt page) ≡ fine
    → Examining fmt page size many 0 (4 * many) left
examining_start fmt page size many left es em el ok = record {
  within = omega arith;
  inside = omega (arith, em, (page_fine fmt page ok).0.offsets);
  passes = vectors_passed_start fmt page size many left es em el ok;
  rows = ap (λ (rs : List Raw). verdict (all_rules_rows fmt 0 rs)) (raws_start fmt page size many left es em el);
}

module _ {fmt : Format} {page : List ℕ} {size many v at left : ℕ} (u : Examining fmt page size many v at left) where
  -- the next vector: it has n values, and the part of the page from its start on is lent
  module _ (n : ℕ) (more : v < many) (en : n ≡ min size left) where
    abbrev part : List ℕ
    part = lent (8 + at) page

    ep : part ≡ drop (8 + at) page
    ep = lent_is (8 + at) page

    next-passed : Passed fmt n (meta_at fmt part) part
    next-passed = vector-passed fmt page part size many v at left n _ more ep en refl u.passes

    pub next-laid : size ≤ 2 ^ max_s → (n ≤ 2 ^ max_s) × Passed fmt n (meta_at fmt part) part
    next-laid h = (omega (arith, en), next-passed)

    -- the code's kind is the values'
    pub next-meta : {f : Format} → f ≡ fmt → meta_bytes f ≤ length part
    next-meta ef = rw ef next-passed.room

    -- its rows gave r
    module _ (r : Result Unit Refusal) (gave : as_verdict r ≡ verdict (rules_rows fmt v (raw_at fmt n part))) where
      turn : (k : ℕ) → k ≡ vector_size fmt n (meta_at fmt part)
          → verdict (all_rules_rows fmt 0 (raws_of fmt page)) ≡ first (verdict (rules_rows fmt v (raw_at fmt n part))) (verdict (all_rules_rows fmt (v + 1) (raws_left fmt page size many (v + 1) (at + k) (left - n))))
      unfolding all_rules_rows
      turn k ek =
          let rs : List Raw = raws_left fmt page size many (v + 1) (at + k) (left - n) in
          u.rows ∙ ap (λ (l : List Raw). verdict (all_rules_rows fmt v l)) (raws_turn fmt page part size many v at left n k more ep en ek)
          ∙ ap (λ (x : ℕ). first (verdict (rules_rows fmt v (raw_at fmt n part))) (verdict (all_rules_rows fmt x rs))) (sym (add-one v))

      pub next-refuses : (s : Result Unit Refusal) (a : Refusal) → r ≡ Err a → IsErrAnd s (λ b. b ≡ a) → as_verdict s ≡ verdict (all_rules_rows fmt 0 (raws_of fmt page))
      next-refuses s a f h = stops r gave s a _ f h ∙ sym (turn _ refl)

      -- the size that the code's metadata gives is the vector's
      module _ {f g : Format} (ef : f ≡ fmt) (eg : g ≡ fmt) (m : Meta) (found : FoundMeta f part m) (k : ℕ) (sized : k ≡ vector_size g n (as_meta m)) where
        ek : k ≡ vector_size fmt n (meta_at fmt part)
        ek = sized ∙ ap (λ (x : Format). vector_size x n (as_meta m)) eg ∙ ap (vector_size fmt n) (subst (λ (x : Format). as_meta m ≡ meta_at x part) ef found.meta_is)

        pub next-inside : 8 + (at + k) ≤ length page
        next-inside = ends_inside page part at k ep u.inside (omega (arith, ek, next-passed.whole))

        pub examining_next : {t : Unit} → r ≡ Ok t → Examining fmt page size many (v + 1) (at + k) (left - n)
        examining_next ok = record {
          within = omega arith;
          inside = next-inside;
          passes = vectors-passed fmt page part size many v at left n k more ep en ek u.passes;
          rows = continues r gave _ _ ok (turn k ek);
        }

  pub examining_end : many ≤ v → fine ≡ verdict (all_rules_rows fmt 0 (raws_of fmt page))
  unfolding all_rules_rows
  examining_end h = sym (u.rows ∙ ap (λ (rs : List Raw). verdict (all_rules_rows fmt v rs)) (raws_end fmt page size many v at left h))

-- ---- the answer

module _ (fmt : Format) (page : List ℕ) (r : Result Unit Refusal) (e : as_verdict r ≡ verdict (examine_rows fmt page)) where
  pub examiner_refuses : (s : Result ℕ Refusal) (a : Refusal) → r ≡ Err a → IsErrAnd s (λ b. b ≡ a) → Examined fmt page (answered s)
  unfolding examine_of
  examiner_refuses s a f h = let p = err_from_is_err_and s h in record { answer_is = ap answered p.1 ∙ ap (λ (b : Refusal). answered (Err b)) p.2 ∙ refused-answer a _ (values_of fmt page) (ap as_verdict (sym f) ∙ e) }

  module _ {t : Unit} (ok : r ≡ Ok t) where
    pub examiner_done : (n : ℕ) → n ≡ count_of page → Examined fmt page (done_with n)
    unfolding examine_of
    examiner_done n en = record {
      answer_is = ap done_with (en ∙ sym (values-count fmt page)) ∙ sym (ap (λ (v : Verdict). answer (settle v (values_of fmt page))) (check_fine r e ok));
    }

    -- a page with nothing to refuse has a header
    pub has_header : 8 ≤ length page
    unfolding examine_rows
    has_header = (page_fine fmt page (first_fine (verdict (page_rows fmt page)) _ (check_fine r e ok)).0).0.eight
