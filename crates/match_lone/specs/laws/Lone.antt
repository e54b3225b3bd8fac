-- What stands for a part that takes just a byte, and what it lists. Assumes nothing.
use Rattle.std.specs.Prelude.{ℕ, ◌+◌, ◌≤◌, ◌<◌, ◌≡◌, ◌⊎◌, List, ◌∷◌, Option, None, Some}
use Rattle.std.proofs.Math.Path.{refl, ap, subst, sym as flip}
use Rattle.std.proofs.Common.{◌∙◌, arith, inl, inr}
use Rattle.grammar.specs.Exp.{Exp, alt}
use Rattle.grammar_table.specs.Table.{symbol_word, expression_count}
use Rattle.grammar_table.specs.Trees.{tree_of}
use Rattle.match_eval.specs.Eval.{ev}
use Rattle.match_eval.specs.steps.Firsts.{said_of}
use Rattle.match_eval.proofs.laws.Memory.{said-right}
use Rattle.match_list.specs.Nodes.{walk_of}
use Rattle.match_list.proofs.laws.NodeSteps.{alt-left as List-left, alt-right as List-right}
use Rattle.match_desk.specs.steps.Desk.{parent_of, mark_of, Desk}
use Rattle.match_desk.specs.steps.Parts.{shape, Made}
use Rattle.match_desk.specs.laws.Parts.{shaped}
use Rattle.match_desk.specs.laws.Desks.{parent_above}
use Rattle.match_walks.specs.steps.Tasks.{again}
use Rattle.match_walks.specs.steps.Waits.{going}
use Rattle.match_lone.specs.declared.Round.TheVariants.{Silent, Node}
use Rattle.match_walks.specs.laws.Waits.{up-star, up-plus}
use Rattle.match_lone.specs.steps.Lone.{Wherever, Stands, Settles, Settled, Single, Lone, Repeated}

stands_self : (t mem : List ℕ) (b x : ℕ) → Stands t mem b x x
stands_self t mem b x = record { small = omega arith; lists = λ s cs n p k l q f. refl }

module _ (t mem : List ℕ) (b x w : ℕ) (is : w ≡ said_of mem b x) where
  -- what is said of x is so
  said-takes : (v : ℕ) → w ≡ v + 1 → Wherever t mem b (λ s cs n p. ev s cs n (tree_of t x) p ≡ v)
  said-takes v e s cs n p k l q = omega (arith, said-right t s cs mem n 0 p k x b w l q is (λ z. omega (arith, z, e)), e)

  pub settles-self : w ≡ 3 → Settles t mem b x x
  settles-self e = record { stands = stands_self t mem b x; two = said-takes 2 e; ends = said-takes 2 e }

  -- of a choice
  module _ (op l y z : ℕ) (made : Made t x op l y z) (choice : op ≡ 3) (three : w ≡ 3) where
    tree : alt (tree_of t y) (tree_of t z) ≡ tree_of t x
    unfolding shape
    tree = shaped t x op l y z 3 made choice

    pub settles-left : (r : ℕ) → Settles t mem b y r → Settles t mem b x r
    unfolding walk_of
    settles-left r h =
        record {
          two = said-takes 2 three;
          ends = h.ends;
          stands = record {
            small = omega (arith, h.stands.small, made.left);
            lists = λ s cs n p k l q f.
                h.stands.lists s cs n p k l q f
                ∙ List-left (ev s cs n (tree_of t y) p) (walk_of s (λ e i. ev s cs n e i) f (tree_of t y) p) (walk_of s (λ e i. ev s cs n e i) f (tree_of t z) p)
                (ev s cs n (tree_of t y) p) refl (λ o. omega (arith, o, h.two s cs n p k l q))
                ∙ ap (λ (e : Exp ℕ). walk_of s (λ e i. ev s cs n e i) f e p) tree;
          };
        }

-- the second alternative, where the byte decides that the first one fails
pub settles-right : (t mem : List ℕ) (b x w op l y z u : ℕ) → w ≡ said_of mem b x → Made t x op l y z → op ≡ 3 → w ≡ 3 → u ≡ said_of mem b y → u ≡ 1
    → (r : ℕ) → Settles t mem b z r → Settles t mem b x r
unfolding walk_of
settles-right t mem b x w op l y z u is made choice three first fails r h =
    record {
      two = said-takes t mem b x w is 2 three;
      ends = h.ends;
      stands = record {
        small = omega (arith, h.stands.small, made.right);
        lists = λ s cs n p k g q f.
            h.stands.lists s cs n p k g q f
            ∙ List-right (ev s cs n (tree_of t y) p) (walk_of s (λ e i. ev s cs n e i) f (tree_of t y) p) (walk_of s (λ e i. ev s cs n e i) f (tree_of t z) p)
            (ev s cs n (tree_of t y) p) refl (said-takes t mem b y u first 0 fails s cs n p k g q)
            ∙ ap (λ (e : Exp ℕ). walk_of s (λ e i. ev s cs n e i) f e p) (tree t mem b x w is op l y z made choice three);
      };
    }

-- the same of what settles it, if that is known
module _ (t mem : List ℕ) (b x w op l y z : ℕ) (is : w ≡ said_of mem b x) (made : Made t x op l y z) (choice : op ≡ 3) (three : w ≡ 3) where
  pub settled-left : (r : Option ℕ) → Settled t mem b y r → Settled t mem b x r
  settled-left None h = tt
  settled-left (Some r) h = settles-left t mem b x w is op l y z made choice three r h

  pub settled-right : (u : ℕ) → u ≡ said_of mem b y → u ≡ 1 → (r : Option ℕ) → Settled t mem b z r → Settled t mem b x r
  settled-right u first fails None h = tt
  settled-right u first fails (Some r) h = settles-right t mem b x w op l y z u is made choice three first fails r h

-- ── what a round lists ──
module _ (t mem k : List ℕ) (b x : ℕ) where
  pub lone-silent : (y m : ℕ) → Settles t mem b x y → m ≡ mark_of k y → m ≡ 0 → Lone t mem k b x (Some Silent)
  lone-silent y m h e z = (y, h, flip e ∙ z)

  pub lone-symbol : (y op l i j : ℕ) → Settles t mem b x y → Made t y op l i j → op ≡ 1 → Single t mem k b l → Lone t mem k b x (Some (Node l))
  unfolding shape
  lone-symbol y op l i j h made is s = ((y, h, flip (shaped t y op l i j 1 made is)), s)

-- the node of symbol r alone: what stands for its body lists none
module _ (t mem k : List ℕ) (b r z m : ℕ) (few : r < 64) (body : z ≡ symbol_word t r 1) where
  single-by : (v : ℕ) → Stands t mem b z v → m ≡ mark_of k v → m ≡ 0 → Single t mem k b r
  single-by v h e o = (few, (v, subst (λ (a : ℕ). Stands t mem b a v) body h, flip e ∙ o))

  pub single-body : m ≡ mark_of k z → m ≡ 0 → Single t mem k b r
  single-body e o = single-by z (stands_self t mem b z) e o

  pub single-settled : (v : ℕ) → Settles t mem b z v → m ≡ mark_of k v → m ≡ 0 → Single t mem k b r
  single-settled v h e o = single-by v h.stands e o

-- ── a repeat ──
module _ (t k : List ℕ) (x e op l y z : ℕ) (desk : Desk t k (expression_count t)) (fits : expression_count t ≤ 1024) (parent : e ≡ parent_of k x) (some : e ≡ 0 → ⊥)
    (made : Made t e op l y z) where
  above : (x < e) × (e ≤ expression_count t)
  above = parent_above t k (expression_count t) desk fits x e (flip parent) (omega (arith, made.left))

  pub repeated : (op ≡ 5) ⊎ (op ≡ 6) → Repeated t k x
  repeated o = (omega (arith, above), (e, behind o))
    where
      behind : (op ≡ 5) ⊎ (op ≡ 6) → (d : ℕ) → going t k d x ≡ again x d ∷ going t k d e
      behind (inl i) d = up-star t k (expression_count t) desk fits e op l y z d made above.1 x i (flip parent)
      behind (inr i) d = up-plus t k (expression_count t) desk fits e op l y z d made above.1 x i (flip parent)
