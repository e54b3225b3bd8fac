-- The rules of 01, "Lakes made plain", as what sets must satisfy: y gives the set of the expression with a number. Assumes nothing: these are definitions.
use Rattle.std.specs.Prelude.{ℕ, zero, suc, ◌<◌, ◌≡◌, Bool, true, List, [], length, get_or}
use Rattle.std.proofs.Math.Option.{Option, none}
use Rattle.base_words.specs.Set.{symbol_set, terminal_set}
use Rattle.base_rounds.specs.Sets.{Set2, In2, Every}
use Rattle.grammar.specs.Exp.{Exp, ter}
use Rattle.grammar.specs.Empty.{has_empty}
use Rattle.grammar.specs.Parts.{Part, terminal, occurs, sequence, choice, option, repeat, repeat1, affirms, denies}
use Rattle.read_tokens.specs.Token.{any}
use Rattle.lake_rules.specs.Beginning.{Beginning, nothing, marked, right_empty, root_eps}

-- contained, ε too
abbrev pub InB : Beginning → Beginning → Type 0
InB a b = In2 a.set b.set × (a.eps ≡ true → b.eps ≡ true)

-- BEGINNING: "Terminal t: {t}. Symbol X: {X}, and ε if X's body has ε. `&e`, `!e`: {ε}. Choice: the union. `e?`, `e*`: e's and ε. `e+`: e's.
-- Sequence a b: a's; if a has ε, a's without ε, and b's." root: 0 for a symbol without a body (02, §4), else 1 + the number of its body
abbrev pub BeginRule : (ℕ → ℕ) → (ℕ → Beginning) → ℕ → Part → Type 0
BeginRule root y i (terminal t) = In2 (terminal_set t) (y i).set
BeginRule root y i (occurs r) = In2 (symbol_set r) (y i).set × (root_eps y (root r) ≡ true → (y i).eps ≡ true)
BeginRule root y i (sequence a b) = In2 (y a).set (y i).set × ((y a).eps ≡ true → InB (y b) (y i))
BeginRule root y i (choice a b) = InB (y a) (y i) × InB (y b) (y i)
BeginRule root y i (option a) = In2 (y a).set (y i).set × ((y i).eps ≡ true)
BeginRule root y i (repeat a) = In2 (y a).set (y i).set × ((y i).eps ≡ true)
BeginRule root y i (repeat1 a) = InB (y a) (y i)
BeginRule root y i (affirms a) = (y i).eps ≡ true
BeginRule root y i (denies a) = (y i).eps ≡ true

-- what is asked of a symbol's body by its root: nothing where it has none
abbrev pub OfBody : ℕ → (ℕ → Type 0) → Type 0
OfBody zero Asked = Unit {0}
OfBody (suc e) Asked = Asked e

module _ (bs : ℕ → Beginning) (root : ℕ → ℕ) where
  -- SUCCEED: "In a b: b gets the sequence's; a gets B(b), and the sequence's if b has ε. Choice, `?`: parts get the whole's. `*`, `+`: e gets B(e) and
  -- the whole's. Under `&` and `!`: nothing. A rule's body gets the set of each occurrence of its symbol."
  abbrev pub SucceedRule : (ℕ → List ℕ) → ℕ → Part → Type 0
  SucceedRule y i (terminal t) = Unit {0}
  SucceedRule y i (occurs r) = OfBody (root r) (λ e. In2 (y i) (y e))
  SucceedRule y i (sequence a b) = In2 (y i) (y b) × In2 (bs b).set (y a) × ((bs b).eps ≡ true → In2 (y i) (y a))
  SucceedRule y i (choice a b) = In2 (y i) (y a) × In2 (y i) (y b)
  SucceedRule y i (option a) = In2 (y i) (y a)
  SucceedRule y i (repeat a) = In2 (bs a).set (y a) × In2 (y i) (y a)
  SucceedRule y i (repeat1 a) = In2 (bs a).set (y a) × In2 (y i) (y a)
  SucceedRule y i (affirms a) = Unit {0}
  SucceedRule y i (denies a) = Unit {0}

  -- ALT: "In a b: a gets the sequence's; b gets it only if a has ε. In a / b: both get the choice's; a also gets B(b), and the choice's SUCCEED if b
  -- has ε. Under `? * +`: e gets the whole's ALT and the whole's SUCCEED. Under `&` and `!`: nothing. A body gets the set of each occurrence."
  abbrev pub AltRule : (ℕ → List ℕ) → (ℕ → List ℕ) → ℕ → Part → Type 0
  AltRule succ y i (terminal t) = Unit {0}
  AltRule succ y i (occurs r) = OfBody (root r) (λ e. In2 (y i) (y e))
  AltRule succ y i (sequence a b) = In2 (y i) (y a) × ((bs a).eps ≡ true → In2 (y i) (y b))
  AltRule succ y i (choice a b) = In2 (y i) (y a) × In2 (y i) (y b) × In2 (bs b).set (y a) × ((bs b).eps ≡ true → In2 (succ i) (y a))
  AltRule succ y i (option a) = In2 (y i) (y a) × In2 (succ i) (y a)
  AltRule succ y i (repeat a) = In2 (y i) (y a) × In2 (succ i) (y a)
  AltRule succ y i (repeat1 a) = In2 (y i) (y a) × In2 (succ i) (y a)
  AltRule succ y i (affirms a) = Unit {0}
  AltRule succ y i (denies a) = Unit {0}

-- what a rule asks of what the expressions have, at the expression with a number
abbrev pub SetsRule : Type 0 → Type 1
SetsRule A = (ℕ → A) → ℕ → Part → Type 0

-- what is fine, one for each of n expressions, and satisfies a rule; d: of an expression that there is not
pub record Solves {A : Type 0} (fine : A → Type 0) (d : A) (n : ℕ) (part : ℕ → Part) (rule : SetsRule A) (y : List A) : Type 0 where
  pub sets : Every fine d n y
  pub rules : (i : ℕ) → i < n → rule (λ j. get_or y j d) i (part i)

-- "All are least": a solution that lies within every solution, expression by expression
pub record LeastBy {A : Type 0} (fine : A → Type 0) (In : A → A → Type 0) (d : A) (n : ℕ) (part : ℕ → Part) (rule : SetsRule A) (s : List A) : Type 0 where
  pub solves : Solves fine d n part rule s
  pub within : (y : List A) → Solves fine d n part rule y → (i : ℕ) → i < n → In (get_or s i d) (get_or y i d)

-- of sets over r symbols and x terminals: SUCCEED, ALT
abbrev pub Least : ℕ → ℕ → ℕ → (ℕ → Part) → SetsRule (List ℕ) → List (List ℕ) → Type 0
Least r x n part rule s = LeastBy (Set2 r x) In2 [] n part rule s

-- of such sets with or without ε: BEGINNING
abbrev pub LeastBegin : ℕ → ℕ → ℕ → (ℕ → Part) → (ℕ → ℕ) → List Beginning → Type 0
LeastBegin r x n part root s = LeastBy (λ b. Set2 r x b.set) InB nothing n part (BeginRule root) s

-- "ε if X's body has ε": marks that have it whenever the body has; d: the body of a symbol that there is not
module _ {B : Type 0} (has : (ℕ → Bool) → B → Bool) (d : B) (bodies : List B) where
  abbrev pub EmptyMarks : List Bool → Type 0
  EmptyMarks ms = (s : ℕ) → s < length bodies → has (marked ms) (get_or bodies s d) ≡ true → marked ms s ≡ true

  pub record LeastMarksBy (ms : List Bool) : Type 0 where
    pub long : length ms ≡ length bodies
    pub exact : (s : ℕ) → s < length bodies → marked ms s ≡ has (marked ms) (get_or bodies s d)
    pub within : (ks : List Bool) → length ks ≡ length bodies → EmptyMarks ks → (s : ℕ) → s < length bodies → marked ms s ≡ true → marked ks s ≡ true

-- where every symbol has a body, and where a lake may have none
abbrev pub LeastMarks : List (Exp ℕ) → List Bool → Type 0
LeastMarks bodies ms = LeastMarksBy has_empty (ter any) bodies ms

abbrev pub LeastRightMarks : List (Option (Exp ℕ)) → List Bool → Type 0
LeastRightMarks rights ms = LeastMarksBy right_empty none rights ms
