-- Grammars that are the same have equal lists of rules, and no others do (01, Notation). Assumes nothing.
use Rattle.std.specs.Prelude.{◌≡◌, refl, List, [], ◌∷◌, ◌↔◌}
use Rattle.std.proofs.Common.{ap₂, subst, ap as on}
use Rattle.read_tokens.specs.Token.{Symbol}
use Rattle.grammar.specs.Exp.{Exp, Rule, sym, ter, seq, alt, opt, star, plus, ahead, never}
use Rattle.grammar.specs.SameGrammar.{SameExp, by_name, by-content, seqs, alts, opts, stars, pluses, aheads, nevers, SameGrammar}
use Rattle.grammar.specs.laws.Same.{leaf-sound, leaf-refl}
use Rattle.read_grammar.specs.laws.Entries.{symbol-sound, symbol-refl}

exp-sound : {a b : Exp Symbol} → SameExp a b → a ≡ b
exp-sound (by_name {h = h} {k = k} e) = on sym (symbol-sound h k e)
exp-sound (by-content {x = x} {y = y} e) = on ter (leaf-sound x y e)
exp-sound (seqs a b) = ap₂ seq (exp-sound a) (exp-sound b)
exp-sound (alts a b) = ap₂ alt (exp-sound a) (exp-sound b)
exp-sound (opts a) = on opt (exp-sound a)
exp-sound (stars a) = on star (exp-sound a)
exp-sound (pluses a) = on plus (exp-sound a)
exp-sound (aheads a) = on ahead (exp-sound a)
exp-sound (nevers a) = on never (exp-sound a)

exp-refl : (a : Exp Symbol) → SameExp a a
exp-refl (sym h) = by_name (symbol-refl h)
exp-refl (ter x) = by-content (leaf-refl x)
exp-refl (seq a b) = seqs (exp-refl a) (exp-refl b)
exp-refl (alt a b) = alts (exp-refl a) (exp-refl b)
exp-refl (opt a) = opts (exp-refl a)
exp-refl (star a) = stars (exp-refl a)
exp-refl (plus a) = pluses (exp-refl a)
exp-refl (ahead a) = aheads (exp-refl a)
exp-refl (never a) = nevers (exp-refl a)

sound : (g h : List Rule) → SameGrammar g h → g ≡ h
sound [] [] s = refl
sound [] (q ∷ qs) s = absurd s
sound (r ∷ rs) [] s = absurd s
sound (r ∷ rs) (q ∷ qs) s =
    let e : r ≡ q = ap₂ (λ (h : Symbol) (a : Exp Symbol). record { left = h; right = a }) (symbol-sound r.left q.left s.0) (exp-sound s.1) in
    ap₂ (λ (x : Rule) (l : List Rule). x ∷ l) e (sound rs qs s.2)

each : (g : List Rule) → SameGrammar g g
each [] = tt
each (r ∷ rs) = (symbol-refl r.left, exp-refl r.right, each rs)

pub same-grammar : (g h : List Rule) → SameGrammar g h ↔ (g ≡ h)
same-grammar g h = (sound g h, λ e. subst (SameGrammar g) e (each g))
