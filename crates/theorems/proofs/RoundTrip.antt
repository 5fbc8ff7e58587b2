-- What is written is read: the page of a column with settings inside the limits passes the reader's rows and gives the column back, and
-- is no longer than the bound. Assumes nothing.
use mathlib.Core.Path.{◌≡◌, sym, ap, ◌∙◌, subst}
use Prim.Native.Nat.{ℕ, ◌+◌, ◌*◌, ◌^◌, ◌<◌, ◌≤◌}
use native.Mathlib.Nat.{div-le_of_le-mul}
use native.Mathlib.Omega.{arith}
use mathlib.Core.List.{List, map}
use mathlib.Core.Option.{Option}
use lib.ListN.{length}
use lib.IntN.{ℤ}
use lib.Ieee.{Format, binary32, binary64}
use lib.Pow.{pow_pos, pow_mono}
use borrow.Author.Tests.{le-ltb}
use Rattle.digits.specs.Lists.{Each, join}
use Rattle.rules.specs.Kind.{word_bytes, meta_bytes, max_values, Values}
use Rattle.rules.specs.Decimal.{Pair, tried}
use Rattle.rules.specs.Vector.{Raw, decoded}
use Rattle.rules.specs.Page.{starts, layout, vectors, encoded_all, page_of, raws_of, s_of, count_of}
use Rattle.rules.specs.Verdict.{fine, verdict, done}
use Rattle.rules.specs.Read.{page_rows, values_of, read_rows, read_of}
use Rattle.rules.specs.Write.{Inside, bound}
use Rattle.rules.specs.Older.{vectors_by, page_by}
use Rattle.rules.proofs.Pages.{Fit, Cut, total, page_back, count-back, s_back}
use Rattle.rules.proofs.Reading.{Sound, page_passes}
use Rattle.rules.proofs.Tries.{tried-some}
use Rattle.rules.proofs.Vectors.{ComesBack}
use Rattle.rules.proofs.Encoded.{Covers, ceil, covers, by_length, by_cut, by_fit, by_sound, by_back, all_by, total_bound, starts-below, page_fits}

pub page_small : (fmt : Format) (l n t : ℕ) → l ≤ max_values → n ≤ max_values → t ≤ l * meta_bytes fmt + n * (2 * word_bytes fmt + 2) → 4 * l + t < 256 ^ 4
page_small binary32 l n t h k g = omega arith
page_small binary64 l n t h k g = omega arith

-- ---- by whatever way values are turned that come back

module _ (fmt : Format) (turn : Pair → ℕ → Option ℤ) (comes : (p : Pair) → ComesBack fmt p (turn p)) (s : ℕ) (ps : List Pair) (vs : List ℕ) (i : Inside fmt s ps (length vs)) (ok : Values fmt vs) where
  abbrev rs : List Raw
  rs = vectors_by fmt turn (2 ^ s) ps vs

  n_small : length vs < 256 ^ 4
  n_small = let h = i.many in omega arith

  cover : Covers (2 ^ s) (length vs) ps
  unfolding ceil
  cover = covers (2 ^ s) (length vs) ps (pow_pos s) i.one_each

  count : vectors s (length vs) ≡ length rs
  count = sym (by_length fmt turn comes (2 ^ s) ps vs ∙ i.one_each)

  few : length rs ≤ max_values
  few = rw (← count) (div-le_of_le-mul (2 ^ s) (let h = i.many in let p = pow_pos s in omega arith))

  cut : Cut (2 ^ s) (length vs) rs
  cut = by_cut fmt turn comes (2 ^ s) ps vs cover

  fit : Each (Fit fmt) rs
  fit = by_fit fmt turn comes (2 ^ s) (pow_mono i.high) ps vs ok

  sound : Each (Sound fmt) rs
  sound = by_sound fmt turn comes (2 ^ s) ps vs i.allowed

  offsets : Each (λ (o : ℕ). o < 256 ^ 4) (starts fmt (4 * length rs) rs)
  offsets = starts-below fmt (4 * length rs) (256 ^ 4) rs (page_small fmt (length rs) (length vs) (total fmt rs) few i.many (total_bound fmt (2 ^ s) (length vs) rs cut sound))

  pub passes_by : verdict (page_rows fmt (page_by fmt turn s ps vs)) ≡ fine
  passes_by = page_passes fmt s (length vs) rs i.low i.high i.many count offsets cut fit sound

  pub raws_by : raws_of fmt (page_by fmt turn s ps vs) ≡ vectors_by fmt turn (2 ^ s) ps vs
  raws_by = page_back fmt s (length vs) rs n_small count offsets cut fit

  pub values-by : values_of fmt (page_by fmt turn s ps vs) ≡ vs
  unfolding values_of
  values-by = ap (λ (x : List Raw). join (map (decoded fmt) x)) raws_by ∙ by_back fmt turn comes (2 ^ s) ps vs cover

  pub counted_by : count_of (page_by fmt turn s ps vs) ≡ length vs
  counted_by = count-back fmt s (length vs) rs n_small

  -- given room, the values are read
  pub reads-by : (room : ℕ) → length vs ≤ room → read_of fmt room (page_by fmt turn s ps vs) ≡ done vs
  unfolding read_of read_rows
  reads-by room h = rw (passes_by, values-by, counted_by, le-ltb room (length vs) h)

-- ---- by the rule

pub page_by_rule : (fmt : Format) (s : ℕ) (ps : List Pair) (vs : List ℕ) → page_by fmt (tried fmt) s ps vs ≡ page_of fmt s ps vs
unfolding page_of
page_by_rule fmt s ps vs = ap (layout fmt s (length vs)) (all_by fmt (2 ^ s) ps vs)

pub s_of_lem : (fmt : Format) (s : ℕ) (ps : List Pair) (vs : List ℕ) → s_of (page_of fmt s ps vs) ≡ s
unfolding page_of
s_of_lem fmt s ps vs = s_back fmt s (length vs) (encoded_all fmt (2 ^ s) ps vs)

module _ (fmt : Format) (s : ℕ) (ps : List Pair) (vs : List ℕ) (i : Inside fmt s ps (length vs)) (ok : Values fmt vs) where
  pub written-passes : verdict (page_rows fmt (page_of fmt s ps vs)) ≡ fine
  written-passes = subst (λ (bs : List ℕ). verdict (page_rows fmt bs) ≡ fine) (page_by_rule fmt s ps vs) (passes_by fmt (tried fmt) (tried-some fmt) s ps vs i ok)

  pub written-raws : raws_of fmt (page_of fmt s ps vs) ≡ encoded_all fmt (2 ^ s) ps vs
  written-raws = ap (raws_of fmt) (sym (page_by_rule fmt s ps vs)) ∙ raws_by fmt (tried fmt) (tried-some fmt) s ps vs i ok ∙ all_by fmt (2 ^ s) ps vs

  pub written-values : values_of fmt (page_of fmt s ps vs) ≡ vs
  written-values = ap (values_of fmt) (sym (page_by_rule fmt s ps vs)) ∙ values-by fmt (tried fmt) (tried-some fmt) s ps vs i ok

  pub counted : count_of (page_of fmt s ps vs) ≡ length vs
  counted = ap count_of (sym (page_by_rule fmt s ps vs)) ∙ counted_by fmt (tried fmt) (tried-some fmt) s ps vs i ok

  pub written-length : length (page_of fmt s ps vs) ≤ bound fmt s (length vs)
  written-length = page_fits fmt s ps vs i ok

  -- given room, what was written is read
  pub round_trip : (room : ℕ) → length vs ≤ room → read_of fmt room (page_of fmt s ps vs) ≡ done vs
  round_trip room h = subst (λ (bs : List ℕ). read_of fmt room bs ≡ done vs) (page_by_rule fmt s ps vs) (reads-by fmt (tried fmt) (tried-some fmt) s ps vs i ok room h)
