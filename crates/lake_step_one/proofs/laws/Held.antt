-- What a table counts, and where the parts of its bodies stand, once it holds a grammar. Assumes nothing.
use Rattle.std.specs.Prelude.{ℕ, zero, suc, ◌+◌, ◌<◌, ◌≡◌, refl, not, List, map, get_or, eqb}
use Rattle.std.proofs.Math.Path.{sym, ap}
use Rattle.std.proofs.Common.{◌∙◌, arith, ne_eqb}
use Rattle.std.proofs.Math.Option.{some}
use Rattle.std.proofs.Math.ListN.{length, length-map}
use Rattle.grammar.specs.Exp.{Exp}
use Rattle.grammar.specs.Numbers.{Grammar, is_lake, terminal_in}
use Rattle.grammar.specs.Parts.{Part, terminal, parts_all}
use Rattle.grammar_table.specs.Table.{symbol_count, terminal_count, expression_count, symbol_word, symbol_by, name_in, leaf_in, part_in, parts_in, roots_in, up_to}
use Rattle.grammar_table.specs.Holds.{Holds, present}
use Rattle.grammar_table.specs.laws.Places.{up_to-at, up_to-long}
use Rattle.grammar_table.specs.laws.Parts.{total, all-long, present-some, from-long}
use Rattle.lake_step_one.specs.steps.Made.{with_bodies}

-- a symbol is a lake by the first word of its record
pub by_kind : (k : ℕ) (w : List ℕ) → is_lake (symbol_by k w) ≡ not (eqb k 0)
by_kind zero w = refl
by_kind (suc k) w = sym (ap not (ne_eqb (suc k) 0 (λ e. let z : ⊥ = omega arith in z)))

-- the part with a number, from the parts by number
pub part_of : (t : List ℕ) (ps : List Part) → up_to (part_in t) (expression_count t) ≡ ps → (k : ℕ) → k < length ps → part_in t (0 + k) ≡ get_or ps k (terminal 0)
part_of t ps e k l =
    let n : expression_count t ≡ length ps = sym (up_to-long (part_in t) (expression_count t)) ∙ ap length e in
    ap (part_in t) (let q : 0 + k ≡ k = omega arith in q) ∙ sym (up_to-at (part_in t) (expression_count t) k (terminal 0) (omega (arith, n)))
    ∙ ap (λ (qs : List Part). get_or qs k (terminal 0)) e

-- a grammar's symbols, terminals, right sides and expressions
module _ (t : List ℕ) (g : Grammar) (h : Holds t g) where
  pub names-are : symbol_count t ≡ length g.names
  names-are = sym (up_to-long (name_in t) (symbol_count t)) ∙ ap length h.names

  pub terminals-are : terminal_count t ≡ length g.terminals
  terminals-are = sym (up_to-long (leaf_in t) (terminal_count t)) ∙ ap length h.terminals

  pub rights-long : symbol_count t ≡ length g.rights
  unfolding roots_in
  rights-long = sym (up_to-long (λ r. symbol_word t r 1) (symbol_count t)) ∙ ap length h.roots ∙ from-long g.rights 0

  pub expressions-are : expression_count t ≡ total (present g.rights)
  unfolding parts_in
  expressions-are = sym (up_to-long (part_in t) (expression_count t)) ∙ ap length h.parts ∙ all-long (terminal_in g) (present g.rights) 0

  pub part-is : (k : ℕ) → k < length (parts_all (terminal_in g) 0 (present g.rights))
      → part_in t (0 + k) ≡ get_or (parts_all (terminal_in g) 0 (present g.rights)) k (terminal 0)
  unfolding parts_in
  part-is = part_of t (parts_all (terminal_in g) 0 (present g.rights)) h.parts

-- a grammar in which every symbol has a body
module _ (t : List ℕ) (g : Grammar) (bodies : List (Exp ℕ)) (h : Holds t (with_bodies g bodies)) where
  pub parts_are : up_to (part_in t) (expression_count t) ≡ parts_all (terminal_in g) 0 bodies
  unfolding parts_in
  parts_are = h.parts ∙ ap (parts_all (terminal_in g) 0) (present-some bodies)

  pub bodies-total : expression_count t ≡ total bodies
  bodies-total = sym (up_to-long (part_in t) (expression_count t)) ∙ ap length parts_are ∙ all-long (terminal_in g) bodies 0

  pub bodies-count : symbol_count t ≡ length bodies
  unfolding roots_in
  bodies-count = sym (up_to-long (λ r. symbol_word t r 1) (symbol_count t)) ∙ ap length h.roots ∙ from-long (map some bodies) 0 ∙ length-map bodies some
