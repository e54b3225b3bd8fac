-- The symbols of a text, noted one after the other. Assumes nothing.
use Rattle.std.specs.Prelude.{ℕ, ◌≡◌, refl, Bool, false, ◌||◌}
use Rattle.std.proofs.Common.{sym, ◌∙◌, subst, true≢false}
use Rattle.std.proofs.Math.Path.{ap}
use Rattle.std.proofs.Math.Bool.{true}
use mathlib.Core.List.{List, [], ◌∷◌}
use Rattle.std.proofs.Math.Option.{some}
use Rattle.grammar_table.specs.Table.{symbols_at, symbol_words, symbol_key, symbol_count}
use Rattle.read_tokens.specs.declared.Mode.{Mode}
use Rattle.read_tokens.specs.declared.Kind.TheVariants.{End}
use Rattle.read_tokens.specs.declared.Token.{Token}
use Rattle.read_tokens.specs.Token.{Symbol, Tok, symbol, leaf, pre, suf, arrow, slash, opens, closes, bad}
use Rattle.read_tokens.specs.Tokens.{token_at}
use Rattle.read_tokens.specs.steps.Code.{kind_of, symbolic, coded}
use Rattle.grammar.specs.Same.{same_symbol}
use Rattle.read_syntax.specs.Reader.{is_arrow}
use Rattle.grammar_table.specs.steps.Rows.{seek, kept, Noted}
use Rattle.grammar_table.specs.laws.Seeks.{noted-full}
use Rattle.grammar_table.specs.laws.Rows.{also, adds}
use Rattle.read_entries.specs.steps.Entries.{symbol_at}
use Rattle.read_grammar.specs.steps.Lay.{st, gather_by, gathered, Rel}
use Rattle.read_grammar.specs.steps.Promises.{toks_at, Ended, Marked, Named}
use Rattle.read_grammar.specs.laws.Places.{the-token, toks_more, is-symbol, symbol_low}
use Rattle.read_grammar.specs.laws.Glue.{kind-here, over-next, long-next, no-token}
use Rattle.read_grammar.specs.laws.Notes.{rel-named}
use Rattle.read_grammar.specs.laws.Found.{symbol-found}

other-token : (every : Bool) (t : Tok) (l : List Tok) → symbolic (kind_of (some t)) ≡ false → gathered every (t ∷ l) ≡ gathered every l
unfolding gathered
other-token every (symbol h) l k = absurd (true≢false (sym (symbol_low h) ∙ k))
other-token every (leaf x) l k = refl
other-token every (pre x) l k = refl
other-token every (suf x) l k = refl
other-token every arrow l k = refl
other-token every slash l k = refl
other-token every opens l k = refl
other-token every closes l k = refl
other-token every bad l k = refl

taken-symbol : (every : Bool) (h : Symbol) (l : List Tok) (b : Bool) → (every || is_arrow l) ≡ b → gathered every (symbol h ∷ l) ≡ gather_by b h (gathered every l)
unfolding gathered
taken-symbol every h l b e = ap (λ (x : Bool). gather_by x h (gathered every l)) e

module _ (every : Bool) (m : Mode) (s : List ℕ) (at : ℕ) (k : Token) (e : k ≡ coded (token_at m s at)) where
  pub mark-end : (t : List ℕ) → k.kind ≡ End → Ended m s at t t
  mark-end t z = record { end = no-token m s at k e z; same = refl }

  next-is : k.next ≡ (token_at m s at).next
  next-is = ap (λ (x : Token). x.next) e

  pub mark-other : (t : List ℕ) → (k.kind ≡ End → ⊥) → symbolic k.kind ≡ false → Marked every m s at k.next t t
  mark-other t z b =
      let w = the-token m s at (λ h. z (kind-here m s at k e ∙ h)) in
      record {
        forth = long-next m s at k e z;
        high = (over-next m s at k e z).high;
        same = λ ns r. (
          ns,
          r,
          ap (adds same_symbol ns)
              (ap (gathered every) (toks_more m s at w.0 w.1) ∙ other-token every w.0 (toks_at m s (token_at m s at).next) (sym (ap symbolic (kind-here m s at k e ∙ ap kind_of w.1)) ∙ b)
              ∙ ap (λ (i : ℕ). gathered every (toks_at m s i)) (sym next-is)),
        );
      }

  module _ (z : k.kind ≡ End → ⊥) (b : symbolic k.kind ≡ true) where
    here : (h : Symbol) × ((token_at m s at).is ≡ some (symbol h))
    here =
        let w = the-token m s at (λ h. z (kind-here m s at k e ∙ h)) in
        let v = is-symbol w.0 (sym (ap symbolic (kind-here m s at k e ∙ ap kind_of w.1)) ∙ b) in
        (v.0, w.1 ∙ ap some v.1)

    gathers : (x : Bool) → (every || is_arrow (toks_at m s k.next)) ≡ x → gathered every (toks_at m s at) ≡ gather_by x here.0 (gathered every (toks_at m s k.next))
    gathers x f =
        ap (gathered every) (toks_more m s at (symbol here.0) here.1 ∙ ap (λ (i : ℕ). symbol here.0 ∷ toks_at m s i) (sym next-is))
        ∙ taken-symbol every here.0 (toks_at m s k.next) x f

    pub mark-yes : (old new : List ℕ) (r : ℕ) → (every || is_arrow (toks_at m s k.next)) ≡ true
        → Noted old new (symbol_at s k.kind k.start k.size) 0 symbol_key symbol_words symbols_at r → Marked every m s at k.next old new
    unfolding adds
    mark-yes old new r f n = record {
      forth = long-next m s at k e z;
      high = (over-next m s at k e z).high;
      same = λ ns i. (
        also same_symbol here.0 ns,
        rel-named old new r here.0 ns i (subst (λ (w : List ℕ). Noted old new w 0 symbol_key symbol_words symbols_at r)
            (symbol-found m s at k.kind k.start k.size here.0 here.1 (sym (kind-here m s at k e)) (sym (ap (λ (x : Token). x.start) e)) (sym (ap (λ (x : Token). x.size) e))) n),
        ap (adds same_symbol ns) (gathers true f),
      );
    }

    pub mark-no : (t : List ℕ) → (every || is_arrow (toks_at m s k.next)) ≡ false → Marked every m s at k.next t t
    mark-no t f = record {
      forth = long-next m s at k e z;
      high = (over-next m s at k e z).high;
      same = λ ns i. (ns, i, ap (adds same_symbol ns) (gathers false f));
    }

    -- where there are too many symbols one more changes nothing
    pub mark-full : (t : List ℕ) → symbol_count t ≡ 65 → Marked every m s at k.next t t
    mark-full t f = go (every || is_arrow (toks_at m s k.next)) refl
      where
        go : (b : Bool) → (every || is_arrow (toks_at m s k.next)) ≡ b → Marked every m s at k.next t t
        go true g =
            let rec : List ℕ = symbol_at s k.kind k.start k.size in
            mark-yes t t (seek t rec symbol_key symbol_words symbols_at (kept t 0)) g (noted-full t rec 0 symbol_key symbol_words symbols_at f)
        go false g = mark-no t g

-- ── all of them ──
pub record LoopN (every : Bool) (m : Mode) (s : List ℕ) (t₁ : List ℕ) (i : ℕ) (t : List ℕ) : Type 0 where
  pub on : (ns : List Symbol) → Rel t₁ (st ns [] [] [])
      → (ms : List Symbol) × Rel t (st ms [] [] []) × (adds same_symbol ns (gathered every (toks_at m s 0)) ≡ adds same_symbol ms (gathered every (toks_at m s i)))

pub loop-n : (every : Bool) (m : Mode) (s : List ℕ) (t : List ℕ) → LoopN every m s t 0 t
loop-n every m s t = record { on = λ ns r. (ns, r, refl) }

pub more-n : {every : Bool} {m : Mode} {s : List ℕ} {i j : ℕ} {t₁ t t₂ : List ℕ} → LoopN every m s t₁ i t → Marked every m s i j t t₂ → LoopN every m s t₁ j t₂
more-n l k = record { on = λ ns r. let u = l.on ns r in let v = k.same u.0 u.1 in (v.0, v.1, u.2 ∙ v.2) }

pub end-n : {every : Bool} {m : Mode} {s : List ℕ} {i : ℕ} {t₁ t t₂ : List ℕ} → LoopN every m s t₁ i t → Ended m s i t t₂ → Named every m s t₁ t₂
unfolding gathered adds
end-n {every} {m} {s} {i} {t₁} {t} {t₂} l k = record {
  same = λ ns r.
      let u = l.on ns r in
      subst (λ (x : List ℕ). Rel x (st (adds same_symbol ns (gathered every (toks_at m s 0))) [] [] [])) (sym k.same)
      (subst (λ (x : List Symbol). Rel t (st x [] [] [])) (sym (u.2 ∙ ap (λ (x : List Tok). adds same_symbol u.0 (gathered every x)) k.end)) u.1);
}
