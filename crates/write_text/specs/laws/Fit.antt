-- The names and terminals of a text that refusals 2 to 5 let through can be written, are within their bounds, and are bytes. Assumes nothing.
use Rattle.std.specs.Prelude.{ℕ, ◌<◌, ◌≡◌, refl, Bool, true, false, length, get_or}
use Rattle.std.proofs.Common.{sym, ap, ◌∙◌}
use Rattle.std.proofs.Math.Path.{subst}
use mathlib.Core.List.{List, [], ◌∷◌, ◌++◌}
use Rattle.read_tokens.specs.declared.Mode.{Mode}
use Rattle.read_tokens.specs.declared.Mode.TheVariants.{Lake, Plain}
use Rattle.read_tokens.specs.Token.{Symbol, name, lake, Leaf, any, literal, class, query, asterisk, cross, Tok, symbol, leaf, suf, slash}
use Rattle.read_tokens.specs.Tokens.{lexemes, toks}
use Rattle.read_tokens.specs.laws.Bytes.{Bytes}
use Rattle.grammar.specs.Exp.{Exp, Rule, sym as uses, ter, seq, alt, opt, star, plus, ahead, never, symbols_in, leaves_in}
use Rattle.grammar.specs.Same.{same_symbol, same_leaf, is_in, new_in}
use Rattle.grammar.specs.Syntax.{Rules}
use Rattle.grammar.specs.Trees.{trees}
use Rattle.grammar.specs.Numbers.{is_lake, left_sides, uses_of, only_lakes, loose_lakes, symbols_of, leaves_of, terminals_of, numbered}
use Rattle.read_syntax.specs.Machine.{over}
use Rattle.read_syntax.specs.Grammar.{GrammarOf}
use Rattle.read_syntax.proofs.laws.Bounds.{over_at, Judges, judged}
use Rattle.grammar_table.specs.laws.Rows.{All, all-at}
use Rattle.read_grammar.specs.steps.Promises.{Sound}
use Rattle.write_rules.proofs.laws.Terminals.{FineLeaf, FineSymbol}
use Rattle.write_rules.proofs.laws.Trip.{FineExpr, FineRules}
use Rattle.write_rules.proofs.laws.Fine.{fine}
use Rattle.write_rules.proofs.laws.TextBytes.{fine-bytes}
use Rattle.write_rules.proofs.laws.Kept.{bones, yield, yields, bones-r}
use Rattle.write_rules.proofs.laws.Within.{Narrow, within-iff, narrow-bones, narrow-split}
use Rattle.lake_calls.specs.laws.Trees.{leaf-at}
use Rattle.grammar.specs.Numbers.{terminal_in}
use Rattle.write_leaves.specs.steps.Printed.{low_leaf}
use Rattle.write_text.specs.laws.Called.{BytesOf, BytesIn, low-leaf}

module _ {A : Type 0} (P : A → Type 0) where
  pub join : (l m : List A) → All P l → All P m → All P (l ++ m)
  join [] m h k = k
  join (x ∷ l) m h k = (h.0, join l m h.1 k)

  new_by : (b : Bool) (x : A) (l m : List A) → P x → All P l → All P m → All P (elim b as (λ c. List A) [ true ↦ l | false ↦ x ∷ m ])
  new_by true x l m p h k = h
  new_by false x l m p h k = (p, k)

  new-all : (same : A → A → Bool) (seen l : List A) → All P l → All P (new_in same seen l)
  unfolding new_in
  new-all same seen [] h = tt
  new-all same seen (x ∷ l) h = new_by (is_in same x seen) x (new_in same seen l) (new_in same (x ∷ seen) l) h.0 (new-all same seen l h.1) (new-all same (x ∷ seen) l h.1)

module _ (P : Symbol → Type 0) where
  kept_by : (b : Bool) (h : Symbol) (l : List Symbol) → P h → All P l → All P (elim b as (λ c. List Symbol) [ true ↦ h ∷ l | false ↦ l ])
  kept_by true h l p q = (p, q)
  kept_by false h l p q = q

  lakes-all : (l : List Symbol) → All P l → All P (only_lakes l)
  unfolding only_lakes
  lakes-all [] h = tt
  lakes-all (x ∷ l) h = kept_by (is_lake x) x (only_lakes l) h.0 (lakes-all l h.1)

  -- what left sides and uses have, all symbols have
  pub names-all : (rs : List Rule) → All P (left_sides rs) → All P (uses_of rs) → All P (symbols_of rs)
  unfolding symbols_of loose_lakes
  names-all rs f u =
      join P (left_sides rs) (new_in same_symbol (left_sides rs) (only_lakes (uses_of rs))) f
      (new-all P same_symbol (left_sides rs) (only_lakes (uses_of rs)) (lakes-all (uses_of rs) u))

-- can be written in a mode, and within its bound
abbrev pub FitName : Mode → Symbol → Type 0
FitName m h = FineSymbol m h × (over m 0 (symbol h) ≡ false)

abbrev pub FitLeaf : Mode → Leaf → Type 0
FitLeaf m x = FineLeaf x × (over m 0 (leaf x) ≡ false)

module _ (m : Mode) where
  in-symbols : (e : Exp Symbol) → FineExpr m e → Narrow m (yield e) → All (FitName m) (symbols_in e)
  unfolding yield symbols_in
  in-symbols (uses h) f n = ((f, n.0), tt)
  in-symbols (ter x) f n = tt
  in-symbols (seq a b) f n = let u = narrow-split m (yield a) (yield b) n in join (FitName m) (symbols_in a) (symbols_in b) (in-symbols a f.0 u.0) (in-symbols b f.1 u.1)
  in-symbols (alt a b) f n =
      let u = narrow-split m (yield a) (slash ∷ yield b) n in join (FitName m) (symbols_in a) (symbols_in b) (in-symbols a f.0 u.0) (in-symbols b f.1 u.1.1)
  in-symbols (opt a) f n = in-symbols a f (narrow-split m (yield a) (suf query ∷ []) n).0
  in-symbols (star a) f n = in-symbols a f (narrow-split m (yield a) (suf asterisk ∷ []) n).0
  in-symbols (plus a) f n = in-symbols a f (narrow-split m (yield a) (suf cross ∷ []) n).0
  in-symbols (ahead a) f n = in-symbols a f n.1
  in-symbols (never a) f n = in-symbols a f n.1

  in-leaves : (e : Exp Symbol) → FineExpr m e → Narrow m (yield e) → All (FitLeaf m) (leaves_in e)
  unfolding yield leaves_in
  in-leaves (uses h) f n = tt
  in-leaves (ter x) f n = ((f, n.0), tt)
  in-leaves (seq a b) f n = let u = narrow-split m (yield a) (yield b) n in join (FitLeaf m) (leaves_in a) (leaves_in b) (in-leaves a f.0 u.0) (in-leaves b f.1 u.1)
  in-leaves (alt a b) f n =
      let u = narrow-split m (yield a) (slash ∷ yield b) n in join (FitLeaf m) (leaves_in a) (leaves_in b) (in-leaves a f.0 u.0) (in-leaves b f.1 u.1.1)
  in-leaves (opt a) f n = in-leaves a f (narrow-split m (yield a) (suf query ∷ []) n).0
  in-leaves (star a) f n = in-leaves a f (narrow-split m (yield a) (suf asterisk ∷ []) n).0
  in-leaves (plus a) f n = in-leaves a f (narrow-split m (yield a) (suf cross ∷ []) n).0
  in-leaves (ahead a) f n = in-leaves a f n.1
  in-leaves (never a) f n = in-leaves a f n.1

  in-lefts : (rs : List Rule) → FineRules m rs → Narrow m (yields rs) → All (FitName m) (left_sides rs)
  unfolding yields left_sides
  in-lefts [] f n = tt
  in-lefts (r ∷ rs) f n = ((f.0, n.0), in-lefts rs f.2 (narrow-split m (yield r.right) (yields rs) n.1.1).1)

  in-uses : (rs : List Rule) → FineRules m rs → Narrow m (yields rs) → All (FitName m) (uses_of rs)
  unfolding yields uses_of
  in-uses [] f n = tt
  in-uses (r ∷ rs) f n = let u = narrow-split m (yield r.right) (yields rs) n.1.1 in join (FitName m) (symbols_in r.right) (uses_of rs) (in-symbols r.right f.1 u.0) (in-uses rs f.2 u.1)

  in-all-leaves : (rs : List Rule) → FineRules m rs → Narrow m (yields rs) → All (FitLeaf m) (leaves_of rs)
  unfolding yields leaves_of
  in-all-leaves [] f n = tt
  in-all-leaves (r ∷ rs) f n = let u = narrow-split m (yield r.right) (yields rs) n.1.1 in join (FitLeaf m) (leaves_in r.right) (leaves_of rs) (in-leaves r.right f.1 u.0) (in-all-leaves rs f.2 u.1)

  in-names : (rs : List Rule) → FineRules m rs → Narrow m (yields rs) → All (FitName m) (symbols_of rs)
  in-names rs f n = names-all (FitName m) rs (in-lefts rs f n) (in-uses rs f n)

  in-terminals : (rs : List Rule) → FineRules m rs → Narrow m (yields rs) → All (FitLeaf m) (terminals_of rs)
  unfolding terminals_of over
  in-terminals rs f n = ((tt, refl), new-all (FitLeaf m) same_leaf (any ∷ []) (leaves_of rs) (in-all-leaves rs f n))

-- ── bytes ──
pub name-bytes : (m : Mode) (h : Symbol) → FitName m h → BytesOf h
name-bytes m (name w) f = fine-bytes w f.0
name-bytes Plain (lake w) f = absurd f.0
name-bytes Lake (lake w) f = fine-bytes w f.0

pub leaf-bytes : (m : Mode) (x : Leaf) → FitLeaf m x → BytesIn x
leaf-bytes m any f = tt
leaf-bytes m (literal []) f = absurd f.0
leaf-bytes m (literal (c ∷ l)) f = f.0
leaf-bytes m (class l) f = tt

-- ── a text ──
module _ (m : Mode) (s : List ℕ) (g : Rules) (b : Bytes s) (sound : Sound m s g) where
  pub is-grammar : GrammarOf m s (trees g)
  is-grammar = (g, sound.reads, refl)

  pub fine-rules : FineRules m (trees g)
  fine-rules = fine m s (trees g) b is-grammar

  pub none_over : (j : ℕ) → over_at m 0 (lexemes m s) j ≡ false
  none_over = (subst (λ o. Judges m (lexemes m s) o) sound.bounded (judged m (lexemes m s))).1

  pub narrow-rules : Narrow m (yields (trees g))
  unfolding toks
  narrow-rules = subst (λ (l : List Tok). Narrow m l) (ap bones (sym sound.reads) ∙ bones-r g) (narrow-bones m (toks m s) ((within-iff m (lexemes m s)).0 none_over).1)

  pub fit-names : All (FitName m) (numbered (trees g)).names
  unfolding numbered
  fit-names = in-names m (trees g) fine-rules narrow-rules

  pub fit-name : (r : ℕ) → r < length (numbered (trees g)).names → FitName m (get_or (numbered (trees g)).names r (name []))
  fit-name r l = all-at (FitName m) (name []) (numbered (trees g)).names r fit-names l

  pub fit-leaf : (x : ℕ) → x < length (numbered (trees g)).terminals → FitLeaf m (get_or (numbered (trees g)).terminals x any)
  unfolding numbered
  fit-leaf x l = all-at (FitLeaf m) any (terminals_of (trees g)) x (in-terminals m (trees g) fine-rules narrow-rules) l

  pub low-leaves : (y : Leaf) → terminal_in (numbered (trees g)) y < length (numbered (trees g)).terminals → low_leaf y ≡ y
  low-leaves y l =
      subst (λ (z : Leaf). low_leaf z ≡ z) (leaf-at y (numbered (trees g)).terminals l)
      (low-leaf (get_or (numbered (trees g)).terminals (terminal_in (numbered (trees g)) y) any)
      (leaf-bytes m (get_or (numbered (trees g)).terminals (terminal_in (numbered (trees g)) y) any) (fit-leaf (terminal_in (numbered (trees g)) y) l)))
