-- The examiner accepts exactly the pages of columns with settings inside the limits, and no page is that of two columns or two choices.
-- Assumes nothing.
use mathlib.Core.Path.{◌≡◌, refl, sym, ap, ap₂, ◌∙◌, subst}
use Prim.Native.Nat.{ℕ, suc, ◌-◌, ◌^◌, min}
use native.Mathlib.Omega.{arith}
use mathlib.Core.List.{List, [], ◌∷◌, ◌++◌, map, append-nil}
use lib.ListN.{length, take, drop, length-append, length-map, drop_of_length-le}
use lib.Seq.{take_at, drop_at, take_all}
use lib.Ieee.{Format}
use Rattle.digits.specs.Lists.{Each, join}
use Rattle.rules.specs.Kind.{Bytes, Values}
use Rattle.rules.specs.Decimal.{Pair}
use Rattle.rules.specs.Vector.{Raw, encoded, decoded}
use Rattle.rules.specs.Page.{layout, vectors, encoded_all, page_of, raws_of, s_of, count_of}
use Rattle.rules.specs.Verdict.{fine, verdict, done}
use Rattle.rules.specs.Read.{page_rows, values_of}
use Rattle.rules.specs.Examine.{rules_rows, all_rules_rows, examine_rows, examine_of}
use Rattle.rules.specs.Write.{Allowed, Inside, PageOf}
use Rattle.rules.proofs.Rows.{first_passes, first_fine, settle-done}
use Rattle.rules.proofs.Pages.{Fit, Cut}
use Rattle.rules.proofs.Reading.{Sound}
use Rattle.rules.proofs.Encoded.{encoded-pair}
use Rattle.rules.proofs.Decoded.{decoded-count, raws_cut, raws_count}
use Rattle.theorems.proofs.RoundTrip.{written-passes, written-raws, written-values, s_of_lem}
use Rattle.theorems.proofs.Accepted.{head, raws_fit, raws_sound, raws_packed, read_values, page_is}
use Rattle.theorems.proofs.Examined.{encoded-passes, passing_is_encoded}

-- ---- accepted: the page of its own values

-- a vector that is the one encoded for its values
abbrev Encodes : Format → Raw → Type 0
Encodes fmt r = encoded fmt r.pair (decoded fmt r) ≡ r

rules_fine : (fmt : Format) (v : ℕ) (rs : List Raw) → verdict (all_rules_rows fmt v rs) ≡ fine → Each (Fit fmt) rs → Each (Sound fmt) rs → Each (λ (r : Raw). Bytes r.packed) rs
    → Each (Encodes fmt) rs
unfolding all_rules_rows
rules_fine fmt v [] e f s b = tt
rules_fine fmt v (r ∷ rs) e f s b =
    let c = first_fine (verdict (rules_rows fmt v r)) (verdict (all_rules_rows fmt (suc v) rs)) e in
    (passing_is_encoded fmt v r f.0 s.0 b.0 c.0, rules_fine fmt (suc v) rs c.1 f.1 s.1 b.1)

cut_here : (size left : ℕ) (x y : List ℕ) → length x ≡ min size left → length y ≡ left - size → (take size (x ++ y) ≡ x) × (drop size (x ++ y) ≡ y)
cut_here size left x [] ex ey = (ap (take size) (append-nil x) ∙ take_all size x (omega (arith, ex)), ap (drop size) (append-nil x) ∙ drop_of_length-le x {i = size} (omega (arith, ex)))
cut_here size left x (b ∷ y) ex ey = let e : length x ≡ size = omega (arith, ex, ey) in (take_at x (b ∷ y) size e, drop_at x (b ∷ y) size e)

abbrev pairs : List Raw → List Pair
pairs rs = map (λ (r : Raw). r.pair) rs

all_encoded : (fmt : Format) (size left : ℕ) (rs : List Raw) → Cut size left rs → Each (Encodes fmt) rs
    → (encoded_all fmt size (pairs rs) (join (map (decoded fmt) rs)) ≡ rs) × (length (join (map (decoded fmt) rs)) ≡ left)
unfolding encoded_all
all_encoded fmt size left [] c e = (refl, sym c)
all_encoded fmt size left (r ∷ rs) c e =
    let ih = all_encoded fmt size (left - size) rs c.2 e.1 in
    let y : List ℕ = join (map (decoded fmt) rs) in
    let lx : length (decoded fmt r) ≡ min size left = decoded-count fmt r ∙ c.0 in
    let k = cut_here size left (decoded fmt r) y lx ih.1 in (
      ap₂ (λ (a : Raw) (l : List Raw). a ∷ l) (ap (encoded fmt r.pair) k.0 ∙ e.0) (ap (encoded_all fmt size (pairs rs)) k.1 ∙ ih.0),
      length-append (decoded fmt r) y ∙ omega (arith, lx, ih.1),
    )

all_allowed : (fmt : Format) (rs : List Raw) → Each (Sound fmt) rs → Each (Allowed fmt) (pairs rs)
all_allowed fmt [] s = tt
all_allowed fmt (r ∷ rs) s = (record { exponent = s.0.exponent; factor = s.0.factor }, all_allowed fmt rs s.1)

-- the settings that a page itself tells
abbrev pub pairs_in : Format → List ℕ → List Pair
pairs_in fmt bs = pairs (raws_of fmt bs)

pub accepted_is_page : (fmt : Format) (bs vs : List ℕ) → Bytes bs → examine_of fmt bs ≡ done vs → PageOf fmt bs (s_of bs) (pairs_in fmt bs) vs
unfolding examine_of examine_rows values_of page_of
accepted_is_page fmt bs vs h e =
    let c = settle-done (verdict (examine_rows fmt bs)) (values_of fmt bs) vs e in
    let d = first_fine (verdict (page_rows fmt bs)) (verdict (all_rules_rows fmt 0 (raws_of fmt bs))) c.0 in
    let rs : List Raw = raws_of fmt bs in
    let hd = head fmt bs h d.0 in
    let sound = raws_sound fmt bs h d.0 in
    let a = all_encoded fmt (2 ^ s_of bs) (count_of bs) rs (raws_cut fmt bs) (rules_fine fmt 0 rs d.1 (raws_fit fmt bs h d.0) sound (raws_packed fmt bs h d.0)) in
    let n : length vs ≡ count_of bs = ap length (sym c.1) ∙ a.1 in
    record {
      inside = record {
        low = hd.low;
        high = hd.high;
        many = rw n hd.many;
        one_each = length-map rs (λ (r : Raw). r.pair) ∙ raws_count fmt bs ∙ ap (vectors (s_of bs)) (sym n);
        allowed = all_allowed fmt rs sound;
      };
      values = subst (Values fmt) c.1 (read_values fmt bs h d.0);
      page_is = sym (ap₂ (λ (k : ℕ) (q : List Raw). layout fmt (s_of bs) k q) n (ap (encoded_all fmt (2 ^ s_of bs) (pairs_in fmt bs)) (sym c.1) ∙ a.0) ∙ page_is fmt bs h d.0);
    }

-- ---- and every such page is accepted

all_pass : (fmt : Format) (size v : ℕ) (ps : List Pair) (vs : List ℕ) → verdict (all_rules_rows fmt v (encoded_all fmt size ps vs)) ≡ fine
unfolding all_rules_rows encoded_all
all_pass fmt size v [] vs = refl
all_pass fmt size v (p ∷ ps) vs =
    first_passes (verdict (rules_rows fmt v (encoded fmt p (take size vs)))) (verdict (all_rules_rows fmt (suc v) (encoded_all fmt size ps (drop size vs))))
    (encoded-passes fmt p (take size vs) v) (all_pass fmt size (suc v) ps (drop size vs))

pub page_is_accepted : (fmt : Format) (s : ℕ) (ps : List Pair) (vs : List ℕ) → Inside fmt s ps (length vs) → Values fmt vs → examine_of fmt (page_of fmt s ps vs) ≡ done vs
unfolding examine_of examine_rows
page_is_accepted fmt s ps vs i ok =
    rw (written-passes fmt s ps vs i ok, written-values fmt s ps vs i ok, written-raws fmt s ps vs i ok, all_pass fmt (2 ^ s) 0 ps vs)

-- ---- of one column and one choice only

pairs_back : (fmt : Format) (size : ℕ) (ps : List Pair) (vs : List ℕ) → pairs (encoded_all fmt size ps vs) ≡ ps
unfolding encoded_all
pairs_back fmt size [] vs = refl
pairs_back fmt size (p ∷ ps) vs = ap₂ (λ (q : Pair) (qs : List Pair). q ∷ qs) (encoded-pair fmt p (take size vs)) (pairs_back fmt size ps (drop size vs))

pub one_page : (fmt : Format) (s s' : ℕ) (ps ps' : List Pair) (vs vs' : List ℕ) → Inside fmt s ps (length vs) → Values fmt vs → Inside fmt s' ps' (length vs') → Values fmt vs'
    → page_of fmt s ps vs ≡ page_of fmt s' ps' vs' → (s ≡ s') × (ps ≡ ps') × (vs ≡ vs')
one_page fmt s s' ps ps' vs vs' i ok i' ok' e = (
  sym (s_of_lem fmt s ps vs) ∙ ap s_of e ∙ s_of_lem fmt s' ps' vs',
  sym (pairs_back fmt (2 ^ s) ps vs) ∙ ap pairs (sym (written-raws fmt s ps vs i ok) ∙ ap (raws_of fmt) e ∙ written-raws fmt s' ps' vs' i' ok') ∙ pairs_back fmt (2 ^ s') ps' vs',
  sym (written-values fmt s ps vs i ok) ∙ ap (values_of fmt) e ∙ written-values fmt s' ps' vs' i' ok',
)
