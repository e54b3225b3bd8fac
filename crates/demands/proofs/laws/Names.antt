-- The names of an accepted grammar stand in JSON as they are, and no two of them are one text (02, par. 1). Assumes nothing.
use Prim.Native.Nat.{ℕ, zero, suc, ◌<◌}
use Rattle.std.specs.Prelude.{◌≡◌, refl, true, false, length, get_or}
use Rattle.std.proofs.Common.{sym, ap, ◌∙◌}
use Rattle.std.proofs.Math.Path.{subst}
use Rattle.std.proofs.Math.Bool.{true≢false}
use mathlib.Core.List.{List, [], ◌∷◌, ◌++◌}
use Rattle.std.proofs.Math.Option.{none}
use native.Mathlib.Omega.{arith}
use Rattle.base_facts.specs.laws.Bools.{or-fails}
use Rattle.read_tokens.specs.declared.Mode.{Mode}
use Rattle.read_tokens.specs.declared.Mode.TheVariants.{Lake, Plain}
use Rattle.read_tokens.specs.Kinds.{one_of, ranges, kind_at}
use Rattle.read_tokens.specs.Token.{Symbol, name, lake}
use Rattle.read_tokens.specs.Tokens.{name_byte}
use Rattle.read_tokens.specs.laws.Bytes.{Bytes}
use Rattle.read_tokens.specs.laws.Forward.{letter-name}
use Rattle.grammar.specs.Exp.{Rule}
use Rattle.grammar.specs.Same.{same_symbol, is_in}
use Rattle.grammar.specs.Numbers.{numbered}
use Rattle.grammar.specs.Syntax.{Rules}
use Rattle.grammar.specs.Trees.{trees}
use Rattle.read_grammar.specs.steps.Promises.{Sound}
use Rattle.read_grammar.specs.laws.Entries.{symbol-refl}
use Rattle.write_rules.specs.Writing.{symbol_text}
use Rattle.write_rules.proofs.laws.Terminals.{AllName, FineName, FineSymbol}
use Rattle.write_text.specs.laws.Fit.{fit-name}
use Rattle.write_back.specs.laws.Readable.{Distinct}
use Rattle.write_back.specs.laws.Own.{left-once}
use Rattle.write_back.specs.laws.Names.{names-distinct}
use Rattle.prepare.specs.Prepare.{prepared, prepared_by, refuses}
use Rattle.prepare.specs.laws.Reads.{grammar-read, clear-text}
use Rattle.tree_json.specs.Reading.{Quoteless, Plainly}
use Rattle.demands.specs.Rows.{known, symbol_of}

-- ── no quote ──
quote-no-name : name_byte 34 ≡ true → ⊥
unfolding kind_at one_of ranges
quote-no-name e = true≢false (sym e)

no-quote : (b : ℕ) → name_byte b ≡ true → b ≡ 34 → ⊥
no-quote b e q = quote-no-name (subst (λ (x : ℕ). name_byte x ≡ true) q e)

all-quoteless : (w : List ℕ) → AllName w → Quoteless w
all-quoteless [] f = tt
all-quoteless (b ∷ w) f = (no-quote b f.0, all-quoteless w f.1)

name-quoteless : (w : List ℕ) → FineName w → Quoteless w
name-quoteless [] f = absurd f
name-quoteless (b ∷ w) f = (no-quote b (letter-name b f.0), all-quoteless w f.1)

joined-quoteless : (v w : List ℕ) → Quoteless v → Quoteless w → Quoteless (v ++ w)
joined-quoteless [] w f g = g
joined-quoteless (b ∷ v) w f g = (f.0, joined-quoteless v w f.1 g)

text-quoteless : (m : Mode) (h : Symbol) → FineSymbol m h → Quoteless (symbol_text h)
unfolding symbol_text
text-quoteless m (name w) f = name-quoteless w f
text-quoteless Plain (lake w) f = absurd f
text-quoteless Lake (lake w) f = (λ e. omega (arith, e), joined-quoteless w (62 ∷ []) (name-quoteless w f) (λ e. omega (arith, e), tt))

-- ── one text, one symbol ──
abbrev tail_of : List ℕ → List ℕ
tail_of [] = []
tail_of (b ∷ l) = l

abbrev front_of : List ℕ → List ℕ
front_of [] = []
front_of (b ∷ []) = []
front_of (b ∷ c ∷ l) = b ∷ front_of (c ∷ l)

front-is : (w : List ℕ) (b : ℕ) → front_of (w ++ (b ∷ [])) ≡ w
front-is [] b = refl
front-is (c ∷ []) b = refl
front-is (c ∷ d ∷ w) b = ap (λ (l : List ℕ). c ∷ l) (front-is (d ∷ w) b)

bracket-no-letter : kind_at 60 ≡ 2 → ⊥
unfolding kind_at one_of ranges
bracket-no-letter e = omega (arith, e)

bracket-no-name : (v l : List ℕ) → FineName v → v ≡ 60 ∷ l → ⊥
bracket-no-name v l f e = bracket-no-letter (subst FineName e f).0

text-one : (m : Mode) (h y : Symbol) → FineSymbol m h → FineSymbol m y → symbol_text h ≡ symbol_text y → h ≡ y
unfolding symbol_text
text-one m (name v) (name w) f g e = ap name e
text-one Plain (lake v) y f g e = absurd f
text-one Plain (name v) (lake w) f g e = absurd g
text-one Lake (lake v) (lake w) f g e =
    ap lake (sym (front-is v 62) ∙ ap (λ (l : List ℕ). front_of (tail_of l)) e ∙ front-is w 62)
text-one Lake (name v) (lake w) f g e = absurd (bracket-no-name v (w ++ (62 ∷ [])) f e)
text-one Lake (lake v) (name w) f g e = absurd (bracket-no-name w (v ++ (62 ∷ [])) g (sym e))

-- ── places in a list whose symbols differ ──
symbol-same : (h y : Symbol) → h ≡ y → same_symbol h y ≡ true
symbol-same h y e = subst (λ (x : Symbol). same_symbol h x ≡ true) e (symbol-refl h)

module _ (d : Symbol) where
  out_of : (l seen : List Symbol) → Distinct seen l → (i : ℕ) → i < length l → is_in same_symbol (get_or l i d) seen ≡ false
  unfolding is_in
  out_of [] seen f i l = let z : ⊥ = omega arith in absurd z
  out_of (h ∷ t) seen f zero l = f.0
  out_of (h ∷ t) seen f (suc i) l =
      (or-fails (same_symbol (get_or t i d) h) (is_in same_symbol (get_or t i d) seen) (out_of t (h ∷ seen) f.1 i (omega arith))).1

  not_first : (h : Symbol) (t seen : List Symbol) → Distinct (h ∷ seen) t → (i : ℕ) → i < length t → h ≡ get_or t i d → ⊥
  unfolding is_in
  not_first h t seen f i l e =
      true≢false
      (sym (symbol-same (get_or t i d) h (sym e))
      ∙ (or-fails (same_symbol (get_or t i d) h) (is_in same_symbol (get_or t i d) seen) (out_of t (h ∷ seen) f i l)).0)

  one_place : (l seen : List Symbol) → Distinct seen l → (i j : ℕ) → i < length l → j < length l → get_or l i d ≡ get_or l j d → i ≡ j
  one_place [] seen f i j a b e = let z : ⊥ = omega arith in absurd z
  one_place (h ∷ t) seen f zero zero a b e = refl
  one_place (h ∷ t) seen f zero (suc j) a b e = absurd (not_first h t seen f.1 j (omega arith) e)
  one_place (h ∷ t) seen f (suc i) zero a b e = absurd (not_first h t seen f.1 i (omega arith) (sym e))
  one_place (h ∷ t) seen f (suc i) (suc j) a b e = ap suc (one_place t (h ∷ seen) f.1 i j (omega arith) (omega arith) e)

-- ── a text ──
module _ (m : Mode) (t : List ℕ) (b : Bytes t) where
  abbrev PlainlyIn : List Rule → Type 0
  PlainlyIn rs = Plainly (λ r. get_or (numbered rs).names r (name [])) (length (numbered rs).names)

  pub plain-names : refuses m t ≡ none → Plainly (symbol_of m t) (known m t)
  unfolding prepared prepared_by numbered
  plain-names ok =
      let w = grammar-read m t (clear-text m t ok) in
      subst PlainlyIn w.2
      (record {
        quoteless = λ r l. text-quoteless m _ (fit-name m t w.0 b w.1 r l).0;
        differ =
            λ r q l k e.
            one_place (name []) (numbered (trees w.0)).names [] (distinct w.0 w.1) r q l k
            (text-one m _ _ (fit-name m t w.0 b w.1 r l).0 (fit-name m t w.0 b w.1 q k).0 e);
      })
    where
      distinct : (g : Rules) → Sound m t g → Distinct [] (numbered (trees g)).names
      distinct g s = names-distinct (trees g) (left-once m t g b s)
