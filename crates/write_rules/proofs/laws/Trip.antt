-- A grammar written as text and read again is the same grammar. Assumes nothing.
use Rattle.std.specs.Prelude.{ℕ, ◌≡◌, false}
use Rattle.std.proofs.Math.Path.{refl}
use Rattle.std.proofs.Common.{sym as inverse, ◌∙◌}
use mathlib.Core.List.{List, [], ◌∷◌, ◌++◌, append-nil}
use Rattle.read_tokens.specs.Kinds.{one_of, ranges, kind_at}
use Rattle.read_tokens.specs.declared.Mode.{Mode}
use Rattle.read_tokens.specs.Token.{Symbol, Prefix, amp, bang, Suffix, query, asterisk, cross, Tok, pre, suf, slash, opens, closes}
use Rattle.read_tokens.specs.Tokens.{name_byte, toks}
use Rattle.grammar.specs.Syntax.{choice_toks, seq_toks, pref_toks, suf_toks, prim_toks, tokens}
use Rattle.grammar.specs.Exp.{Exp, sym, ter, seq, alt, opt, star, plus, ahead, never, Rule}
use Rattle.read_syntax.specs.Grammar.{GrammarOf}
use Rattle.write_rules.specs.Writing.{prefix_byte, suffix_byte, put, expr_text, rule_text, text}
use Rattle.write_rules.proofs.laws.Terminals.{FineLeaf, FineSymbol}
use Rattle.write_rules.proofs.laws.Pieces.{loose, tight, Piece, joined, pre-piece, suf-piece, open-piece, close-piece, slash-piece, arrow-piece, leaf-piece, symbol-piece, blank-piece, empty-piece, whole}
use Rattle.write_rules.proofs.laws.Pairs.{conc, rule_toks, written, rules, trees-rules, tokens-rules}

-- what can be written in a mode
abbrev pub FineExpr : Mode → Exp Symbol → Type 0
FineExpr m (sym h) = FineSymbol m h
FineExpr m (ter x) = FineLeaf x
FineExpr m (seq a b) = FineExpr m a × FineExpr m b
FineExpr m (alt a b) = FineExpr m a × FineExpr m b
FineExpr m (opt a) = FineExpr m a
FineExpr m (star a) = FineExpr m a
FineExpr m (plus a) = FineExpr m a
FineExpr m (ahead a) = FineExpr m a
FineExpr m (never a) = FineExpr m a

abbrev pub FineRules : Mode → List Rule → Type 0
FineRules m [] = Unit {0}
FineRules m (r ∷ rs) = FineSymbol m r.left × FineExpr m r.right × FineRules m rs

-- e where an expression of level k or tighter may stand bare
abbrev at : ℕ → Exp Symbol → List ℕ
at k e = put k e (expr_text e)

-- pieces of an expression's text
module _ (m : Mode) where
  spaced : {w : List ℕ} {ts : List Tok} → Piece m tight w ts → Piece m tight (32 ∷ w) ts
  unfolding kind_at one_of ranges
  spaced p = joined (blank-piece m 32 refl) p (λ r h. tt)

  blank-stops : name_byte 32 ≡ false
  unfolding kind_at one_of ranges
  blank-stops = refl

  close-stops : name_byte 41 ≡ false
  unfolding kind_at one_of ranges
  close-stops = refl

  suffix-stops : (x : Suffix) → name_byte (suffix_byte x) ≡ false
  unfolding kind_at one_of ranges
  suffix-stops query = refl
  suffix-stops asterisk = refl
  suffix-stops cross = refl

  any-edge : {w : List ℕ} {ts : List Tok} → Piece m loose w ts → Piece m tight w ts
  any-edge p = record { short = p.short; reads = λ s i rest h d f. p.reads s i rest tt d f }

  grouped : {w : List ℕ} {ts : List Tok} → Piece m tight w ts → Piece m tight (40 ∷ (w ++ (41 ∷ []))) (opens ∷ (ts ++ (closes ∷ [])))
  grouped p = joined (open-piece m) (joined p (any-edge (close-piece m)) (λ r h. close-stops)) (λ r h. tt)

  alt-piece : {w v : List ℕ} {ts us : List Tok} → Piece m tight w ts → Piece m tight v us → Piece m tight (w ++ (32 ∷ 47 ∷ 32 ∷ v)) (ts ++ (slash ∷ us))
  alt-piece p q = joined p (spaced (joined (slash-piece m) (spaced q) (λ r h. tt))) (λ r h. blank-stops)

  seq-piece : {w v : List ℕ} {ts us : List Tok} → Piece m tight w ts → Piece m tight v us → Piece m tight (w ++ (32 ∷ v)) (ts ++ us)
  seq-piece p q = joined p (spaced q) (λ r h. blank-stops)

  prefix-piece : (x : Prefix) {w : List ℕ} {ts : List Tok} → Piece m tight w ts → Piece m tight (prefix_byte x ∷ w) (pre x ∷ ts)
  prefix-piece x p = joined (pre-piece m x) p (λ r h. tt)

  suffix-piece : (x : Suffix) {w : List ℕ} {ts : List Tok} → Piece m tight w ts → Piece m tight (w ++ (suffix_byte x ∷ [])) (ts ++ (suf x ∷ []))
  suffix-piece x p = joined p (any-edge (suf-piece m x)) (λ r h. suffix-stops x)

  record Good (e : Exp Symbol) : Type 0 where
    c : Piece m tight (at 0 e) (choice_toks (conc e).c)
    s : Piece m tight (at 1 e) (seq_toks (conc e).s)
    p : Piece m tight (at 2 e) (pref_toks (conc e).p)
    f : Piece m tight (at 3 e) (suf_toks (conc e).f)
    q : Piece m tight (at 4 e) (prim_toks (conc e).q)

  good : (e : Exp Symbol) → FineExpr m e → Good e
  unfolding expr_text conc choice_toks
  good (sym h) x = let u = symbol-piece m h x in record { c = u; s = u; p = u; f = u; q = u }
  good (ter t) x = let u = any-edge (leaf-piece m t x) in record { c = u; s = u; p = u; f = u; q = u }
  good (seq a b) x = let u = seq-piece (good a x.0).s (good b x.1).p in let v = grouped u in record { c = u; s = u; p = v; f = v; q = v }
  good (alt a b) x = let u = alt-piece (good a x.0).c (good b x.1).s in let v = grouped u in record { c = u; s = v; p = v; f = v; q = v }
  good (opt a) x = let u = suffix-piece query (good a x).q in let v = grouped u in record { c = u; s = u; p = u; f = u; q = v }
  good (star a) x = let u = suffix-piece asterisk (good a x).q in let v = grouped u in record { c = u; s = u; p = u; f = u; q = v }
  good (plus a) x = let u = suffix-piece cross (good a x).q in let v = grouped u in record { c = u; s = u; p = u; f = u; q = v }
  good (ahead a) x = let u = prefix-piece amp (good a x).f in let v = grouped u in record { c = u; s = u; p = u; f = v; q = v }
  good (never a) x = let u = prefix-piece bang (good a x).f in let v = grouped u in record { c = u; s = u; p = u; f = v; q = v }

  at-0 : (e : Exp Symbol) → at 0 e ≡ expr_text e
  at-0 (sym h) = refl
  at-0 (ter t) = refl
  at-0 (seq a b) = refl
  at-0 (alt a b) = refl
  at-0 (opt a) = refl
  at-0 (star a) = refl
  at-0 (plus a) = refl
  at-0 (ahead a) = refl
  at-0 (never a) = refl

  rule-piece : (r : Rule) → FineSymbol m r.left → FineExpr m r.right → Piece m loose (rule_text r) (rule_toks r)
  unfolding rule_text kind_at one_of ranges
  rule-piece r x y =
      let e : Exp Symbol = r.right in
      let body : Piece m tight (expr_text e) (choice_toks (conc e).c) = rw (at-0 e) at (good e y).c in
      let line : Piece m loose (expr_text e ++ (10 ∷ [])) (choice_toks (conc e).c) = rw (append-nil (choice_toks (conc e).c)) at (joined body (blank-piece m 10 refl) (λ r k. refl)) in
      let tail = joined (blank-piece m 32 refl) (joined (arrow-piece m) (joined (blank-piece m 32 refl) line (λ r k. tt)) (λ r k. tt)) (λ r k. tt) in
      joined (symbol-piece m r.left x) tail (λ r k. blank-stops)

  text-piece : (g : List Rule) → FineRules m g → Piece m loose (text g) (written g)
  unfolding text written
  text-piece [] x = empty-piece m
  text-piece (r ∷ rs) x = joined (rule-piece r x.0 x.1) (text-piece rs x.2) (λ r k. tt)

-- the tokens of the text are those of the rules with the needed pairs
pub text-written : (m : Mode) (g : List Rule) → FineRules m g → toks m (text g) ≡ written g
text-written m g x = whole m loose (text g) (written g) tt (text-piece m g x)

pub text-tokens : (m : Mode) (r : Rule) (rs : List Rule) → FineRules m (r ∷ rs) → toks m (text (r ∷ rs)) ≡ tokens (rules r rs)
text-tokens m r rs x = text-written m (r ∷ rs) x ∙ inverse (tokens-rules r rs)

-- a written grammar is read as itself; as nothing else, by `one-grammar`
pub round_trip : (m : Mode) (r : Rule) (rs : List Rule) → FineRules m (r ∷ rs) → GrammarOf m (text (r ∷ rs)) (r ∷ rs)
round_trip m r rs x = (rules r rs, inverse (text-tokens m r rs x), trees-rules r rs)
