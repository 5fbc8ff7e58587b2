-- The writer's rows: which of them refuses first, what it shows that all pass, and what the writing and the measuring call then give.
-- Assumes nothing.
use mathlib.Core.Path.{◌≡◌, refl, sym, ap, ap₂, ◌∙◌, subst}
use mathlib.Core.List.{List, ◌∷◌}
use Prim.Native.Nat.{ℕ, ◌+◌, ◌-◌, ◌*◌, ◌/◌, ◌^◌, ◌≤◌, ◌<◌}
use native.Mathlib.Numerals.{add-one}
use native.Mathlib.Omega.{arith}
use lib.ListN.{length, drop}
use lib.Ieee.{Format}
use borrow.Author.Tests.{lt-ltb, le-ltb, ltb-false, eq-eqb, ne_eqb}
use Rattle.digits.specs.Lists.{over}
use Rattle.rules.specs.Kind.{min_s, max_s, max_values}
use Rattle.rules.specs.Decimal.{Pair}
use Rattle.rules.specs.Page.{vectors, page_of}
use Rattle.rules.specs.Verdict.{Verdict, fine, refuse, first, verdict, row, the_page, done_with, ◌below◌}
use Rattle.rules.specs.Write.{pairs_of, pairs_rows, settings_rows, page_size, write_rows, write_of}
use Rattle.rules.specs.Calls.{measured, measure_of, Measured, Written}
use Rattle.rules.specs.declared.Answer.{Answer}
use Rattle.checks.specs.declared.check.Refusal.{Refusal}
use Rattle.rules.specs.declared.Pair as code
use Rattle.rules.proofs.Rows.{row_fine}
use Rattle.rules.proofs.Settings.{pairs_next, pairs_none, settings-fine}
use Rattle.rules.specs.Coded.{format_of, as_pair}
use Rattle.rules.specs.declared.Kind.{Kind}
use Rattle.checks.specs.Forms.{as_verdict, answered, pair_rows}
use Rattle.std.specs.Prelude.{Result, Ok, Err}
use Rattle.std.specs.Result.{IsErrAnd}
use Rattle.std.proofs.lemmas.Result.{err_from_is_err_and}
use Rattle.checks.proofs.Refusals.{check_fine, pairs_turn, refused-answer, refused-after}
use Rattle.writer.specs.Settled.{EveryColumn, Settled, Ready}
use Rattle.writer.specs.Recorded.{pair_at}

-- ---- 9 and 10: the pair of vector v, and those behind it

pub pairs_step : (fmt : Format) (bs : List ℕ) (v : ℕ) (p : code.Pair) → as_pair p ≡ pair_at bs (2 * v) → 2 * v + 1 < length bs
    → verdict (pairs_rows fmt v (pairs_of (drop (2 * v) bs))) ≡ first (verdict (pair_rows fmt v p)) (verdict (pairs_rows fmt (v + 1) (pairs_of (drop (2 * (v + 1)) bs))))
pairs_step fmt bs v p e h =
    let two : 2 * v + 2 ≡ 2 * (v + 1) = omega arith in
    let rest : List Pair = pairs_of (drop (2 * (v + 1)) bs) in
    ap (λ (ps : List Pair). verdict (pairs_rows fmt v ps)) (pairs_next bs (2 * v) h ∙ ap₂ (λ (x : Pair) (j : ℕ). x ∷ pairs_of (drop j bs)) (sym e) two)
    ∙ pairs_turn fmt v p rest ∙ ap (λ (k : ℕ). first (verdict (pair_rows fmt v p)) (verdict (pairs_rows fmt k rest))) (sym (add-one v))

pub pairs_stop : (fmt : Format) (bs : List ℕ) (v : ℕ) → length bs ≤ 2 * v + 1 → fine ≡ verdict (pairs_rows fmt v (pairs_of (drop (2 * v) bs)))
unfolding pairs_rows
pairs_stop fmt bs v h = ap (λ (ps : List Pair). verdict (pairs_rows fmt v ps)) (sym (pairs_none bs (2 * v) h))

-- ---- 5, 6, 16, then those

module _ (fmt : Format) (s : ℕ) (pairs vs : List ℕ) where
  pub no5_low : s < min_s → refuse 5 the_page ≡ verdict (settings_rows fmt s pairs vs)
  unfolding settings_rows
  no5_low h = rw (lt-ltb s min_s h)

  pub no5_high : min_s ≤ s → max_s < s → refuse 5 the_page ≡ verdict (settings_rows fmt s pairs vs)
  unfolding settings_rows
  no5_high l h = rw (le-ltb s min_s l, lt-ltb max_s s h)

  module _ (low : min_s ≤ s) (high : s ≤ max_s) where
    pub no6 : max_values < length vs → refuse 6 the_page ≡ verdict (settings_rows fmt s pairs vs)
    unfolding settings_rows
    no6 h = rw (le-ltb s min_s low, le-ltb max_s s high, lt-ltb max_values (length vs) h)

    module _ (many : length vs ≤ max_values) where
      pub no16 : (length pairs ≡ 2 * vectors s (length vs) → ⊥) → refuse 16 the_page ≡ verdict (settings_rows fmt s pairs vs)
      unfolding settings_rows
      no16 h = rw (le-ltb s min_s low, le-ltb max_s s high, le-ltb max_values (length vs) many, ne_eqb (length pairs) (2 * vectors s (length vs)) h)

      pub from9 : length pairs ≡ 2 * vectors s (length vs) → verdict (pairs_rows fmt 0 (pairs_of pairs)) ≡ verdict (settings_rows fmt s pairs vs)
      unfolding settings_rows
      from9 h = rw (le-ltb s min_s low, le-ltb max_s s high, le-ltb max_values (length vs) many, eq-eqb (length pairs) (2 * vectors s (length vs)) h)

-- ---- the calls

-- the rows of the settings, of the values that were counted
pub rows_of : {k kind : Kind} → k ≡ kind → (n s : ℕ) (pairs : List ℕ) (r : Result Unit Refusal) → EveryColumn n (λ (vs : List ℕ). as_verdict r ≡ verdict (settings_rows (format_of k) s pairs vs))
    → (vs : List ℕ) → length vs ≡ n → as_verdict r ≡ verdict (settings_rows (format_of kind) s pairs vs)
rows_of e n s pairs r h vs l = h vs l ∙ ap (λ (k : Kind). verdict (settings_rows (format_of k) s pairs vs)) e

-- what is settled where the settings pass
settings_settle : (fmt : Format) (s : ℕ) (pairs vs : List ℕ) → verdict (settings_rows fmt s pairs vs) ≡ fine → Settled fmt s pairs vs
settings_settle fmt s pairs vs ok = let i = settings-fine fmt s pairs vs ok in record { two_each = i.0; inside = i.1 }

-- a refusal that `?` handed on
handed : (r : Result Unit Refusal) (q : Result ℕ Refusal) (a : Refusal) {x : Verdict} → as_verdict r ≡ x → r ≡ Err a → IsErrAnd q (λ b. b ≡ a) → (as_verdict (Err a) ≡ x) × (answered (Err a) ≡ answered q)
handed r q a e f h = let p = err_from_is_err_and q h in (ap as_verdict (sym f) ∙ e, sym (ap answered p.1 ∙ ap (λ (b : Refusal). answered (Err b)) p.2))

module _ (fmt : Format) (s : ℕ) (pairs vs out : List ℕ) where
  abbrev page : List ℕ
  page = page_of fmt s (pairs_of pairs) vs

  -- 15, behind the settings' rows, of a page of n bytes
  abbrev short : ℕ → Verdict
  short n = verdict (row 15 the_page (length out below n))

  write_rows_lem : verdict (write_rows fmt s pairs vs (length out)) ≡ first (verdict (settings_rows fmt s pairs vs)) (short (length page))
  unfolding write_rows
  write_rows_lem = refl

  refused : (a : Refusal) → as_verdict (Err a) ≡ verdict (write_rows fmt s pairs vs (length out)) → Written fmt vs s pairs out (answered (Err a)) out
  unfolding write_of
  refused a e = record {
    answer_is = refused-answer a (verdict (write_rows fmt s pairs vs (length out))) page e;
    output_is = refused-after a (verdict (write_rows fmt s pairs vs (length out))) page e out;
  }

  -- the settings are refused
  pub refused-settings : (r : Result Unit Refusal) → as_verdict r ≡ verdict (settings_rows fmt s pairs vs) → (q : Result ℕ Refusal) (a : Refusal) → r ≡ Err a → IsErrAnd q (λ b. b ≡ a) → Written fmt vs s pairs out (answered q) out
  refused-settings r e q a f h =
      let p = handed r q a e f h in
      subst (λ (b : Answer). Written fmt vs s pairs out b out) p.1 (refused a (ap (λ (v : Verdict). first v (short (length page))) p.0 ∙ sym write_rows_lem))

  -- the settings pass, and n was measured
  module _ (r₀ : Result Unit Refusal) (e₀ : as_verdict r₀ ≡ verdict (settings_rows fmt s pairs vs)) (u : Unit) (f₀ : r₀ ≡ Ok u) (n : ℕ) (en : n ≡ page_size fmt s pairs vs) where
    ok : verdict (settings_rows fmt s pairs vs) ≡ fine
    ok = check_fine r₀ e₀ f₀

    behind : verdict (write_rows fmt s pairs vs (length out)) ≡ short n
    behind = write_rows_lem ∙ ap (λ (v : Verdict). first v (short (length page))) ok ∙ ap short (sym en)

    pub refused-short : (r : Result Unit Refusal) → as_verdict r ≡ short n → (q : Result ℕ Refusal) (a : Refusal) → r ≡ Err a → IsErrAnd q (λ b. b ≡ a) → Written fmt vs s pairs out (answered q) out
    refused-short r e q a f h = let p = handed r q a e f h in subst (λ (b : Answer). Written fmt vs s pairs out b out) p.1 (refused a (p.0 ∙ sym behind))

    pub ready : (r : Result Unit Refusal) → as_verdict r ≡ short n → (u : Unit) → r ≡ Ok u → Ready fmt s pairs vs out
    ready r e u f = record {
      settled = settings_settle fmt s pairs vs ok;
      room = subst (λ (k : ℕ). k ≤ length out) en (ltb-false (length out) n (row_fine 15 the_page (length out below n) (check_fine r e f)));
    }

    pub written-done : (r : Result Unit Refusal) → as_verdict r ≡ short n → (u : Unit) → r ≡ Ok u → (m : ℕ) (end : List ℕ) → m ≡ length page → end ≡ over page out → Written fmt vs s pairs out (done_with m) end
    unfolding write_of
    written-done r e u f m end em ee = let passes : verdict (write_rows fmt s pairs vs (length out)) ≡ fine = behind ∙ check_fine r e f in record { answer_is = rw passes (ap done_with em); output_is = rw passes ee }

module _ (fmt : Format) (s : ℕ) (pairs vs : List ℕ) where
  pub measured-refused : (r : Result Unit Refusal) → as_verdict r ≡ verdict (settings_rows fmt s pairs vs) → (q : Result ℕ Refusal) (a : Refusal) → r ≡ Err a → IsErrAnd q (λ b. b ≡ a) → Measured fmt vs s pairs (answered q)
  unfolding measure_of
  measured-refused r e q a f h = let p = handed r q a e f h in record { answer_is = sym p.1 ∙ ap (λ (v : Verdict). measured v (page_size fmt s pairs vs)) p.0 }

  module _ (r : Result Unit Refusal) (e : as_verdict r ≡ verdict (settings_rows fmt s pairs vs)) (u : Unit) (f : r ≡ Ok u) where
    pub settled : Settled fmt s pairs vs
    settled = settings_settle fmt s pairs vs (check_fine r e f)

    pub measured-done : (n : ℕ) → n ≡ page_size fmt s pairs vs → Measured fmt vs s pairs (done_with n)
    unfolding measure_of
    measured-done n en = record { answer_is = rw (check_fine r e f) (ap done_with en) }

-- the count of vectors of m values, as the code works it out of n and the size
pub count-is : (s m n power size count : ℕ) → m ≡ n → power ≡ s → size ≡ 2 ^ power → count ≡ (n + (size - 1)) / size → count ≡ vectors s m
count-is s m n power size count em ep es ec = ec ∙ ap₂ (λ (k z : ℕ). (k + (z - 1)) / z) (sym em) (es ∙ ap (λ (x : ℕ). 2 ^ x) ep)
