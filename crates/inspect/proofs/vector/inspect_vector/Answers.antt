-- `vector::inspect_vector` meets its contract: the parts lent on are the vector's packed part and its lists. Assumes nothing.
use Rattle.std.proofs.Common.{◌≡◌, ℕ, ◌<◌, ◌^◌, ap, ap₂, ◌∙◌, sym, subst}
use Rattle.rules.specs.Kind.{meta_bytes, word_bits}
use Rattle.rules.specs.Coded.{format_of, as_pair}
use Rattle.rules.specs.Vector.{Raw}
use Rattle.rules.specs.Page.{meta_at}
use Rattle.rules.specs.Verdict.{verdict}
use Rattle.rules.specs.Examine.{rules_rows}
use Rattle.rules.specs.declared.Kind.{Kind}
use Rattle.rules.specs.declared.Pair.{Pair}
use Rattle.inspect.specs.Seen.{described}
use Rattle.inspect.proofs.Parts.{fields-fit, lists-fit, fields_laid, lists-laid, seen-is}
use Rattle.inspect.proofs.vector.inspect_vector.Goals as goal

pub invariant_of-vector : goal.invariant_of-vector
invariant_of-vector g c =
    let fmt = format_of g.V.Value.KIND in
    let a = c.args in
    let m = c.meta_at-meta in
    let f = c.meta_bytes-front in
    let s = c.packed_size in
    let known = described (as_pair c.scale_of.result.pair) m.result.listed (g.V.Word.as_number c.from_number.result) m.result.width in
    let meta_is : known ≡ meta_at fmt a.part.now = ap₂ (λ (p : Pair) (n : ℕ). described (as_pair p) m.result.listed n m.result.width) c.scale_of.ensures c.from_number.ensures ∙ m.ensures.meta_is ∙ ap (λ (k : Kind). meta_at (format_of k) a.part.now) c.KIND.ensures in
    let front_is : f.result ≡ meta_bytes fmt = f.ensures.0 ∙ ap (λ (k : Kind). meta_bytes (format_of k)) c.KIND-2.ensures in
    let framed : g.V.Word.as_number c.from_number.result < 2 ^ word_bits fmt = subst (λ (n : ℕ). n < 2 ^ word_bits fmt) (sym c.from_number.ensures) (subst (λ (k : Kind). m.result.frame < 2 ^ word_bits (format_of k)) c.KIND.ensures m.ensures.frame) in
    record { laid = fields-fit fmt a.n known _ (fields_laid fmt a.n known a.part.now meta_is c.requires.0 c.requires.1 f.result s.result front_is s.ensures.0 framed) }

pub invariant_of-vector-2 : goal.invariant_of-vector-2
invariant_of-vector-2 g c =
    let fmt = format_of g.V.Value.KIND in
    let a = c.args in
    let m = c.meta_at-meta in
    let f = c.meta_bytes-front in
    let s = c.packed_size in
    let known = described (as_pair c.scale_of.result.pair) m.result.listed (g.V.Word.as_number c.from_number.result) m.result.width in
    let meta_is : known ≡ meta_at fmt a.part.now = ap₂ (λ (p : Pair) (n : ℕ). described (as_pair p) m.result.listed n m.result.width) c.scale_of.ensures c.from_number.ensures ∙ m.ensures.meta_is ∙ ap (λ (k : Kind). meta_at (format_of k) a.part.now) c.KIND.ensures in
    let front_is : f.result ≡ meta_bytes fmt = f.ensures.0 ∙ ap (λ (k : Kind). meta_bytes (format_of k)) c.KIND-2.ensures in
    record { laid = lists-fit fmt a.n known _ (lists-laid fmt a.n known a.part.now meta_is c.requires.0 c.requires.1 f.result s.result front_is s.ensures.0) }

pub returns : goal.returns
returns g c =
    let fmt = format_of g.V.Value.KIND in
    let a = c.args in
    let m = c.meta_at-meta in
    let f = c.meta_bytes-front in
    let s = c.packed_size in
    let known = described (as_pair c.scale_of.result.pair) m.result.listed (g.V.Word.as_number c.from_number.result) m.result.width in
    let meta_is : known ≡ meta_at fmt a.part.now = ap₂ (λ (p : Pair) (n : ℕ). described (as_pair p) m.result.listed n m.result.width) c.scale_of.ensures c.from_number.ensures ∙ m.ensures.meta_is ∙ ap (λ (k : Kind). meta_at (format_of k) a.part.now) c.KIND.ensures in
    let front_is : f.result ≡ meta_bytes fmt = f.ensures.0 ∙ ap (λ (k : Kind). meta_bytes (format_of k)) c.KIND-2.ensures in
    c.check_rules.ensures ∙ ap (λ (r : Raw). verdict (rules_rows fmt a.v r)) (seen-is fmt a.n known a.part.now meta_is c.requires.0 c.requires.1 f.result s.result front_is s.ensures.0)
