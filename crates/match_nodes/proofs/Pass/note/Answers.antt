use native.Mathlib.Omega.{arith}
use Rattle.read_tokens.specs.Bounds.{depth_bound}
use Rattle.match_meaning.specs.Meaning.{nd}
use Rattle.match_nodes.specs.laws.Passes.{note-deep, note-full, note-looks, note-writes}
use Rattle.match_nodes.proofs.Pass.note.Goals as goal
use Rattle.match_nodes.proofs.Pass.note.Goals.{then-self, else-self}

pub returns-then-d-gt-DEEPEST : goal.returns-then-d-gt-DEEPEST
unfolding depth_bound
returns-then-d-gt-DEEPEST c =
    note-deep c.args.self.now.room c.args.self.now.write c.args.nodes.now c.args.at (nd c.args.r c.args.p c.args.q c.args.d) c.if-d-gt-DEEPEST.true

pub returns-then-at-self : goal.returns-then-at-self
unfolding depth_bound
returns-then-at-self c =
    note-full c.args.self.now.room c.args.self.now.write c.args.nodes.now c.args.at (nd c.args.r c.args.p c.args.q c.args.d)
    (omega (arith, c.if-d-gt-DEEPEST.false)) c.if-at-self.true

pub returns : goal.returns
unfolding depth_bound
returns c = elim c.if-self.branch [
  | then-self w ↦
      rw (w.nodes-is, w.put_node.ensures, w.if-self.true) (note-writes c.args.self.now.room c.args.nodes.now c.args.at (nd c.args.r c.args.p c.args.q c.args.d)
      (omega (arith, c.if-d-gt-DEEPEST.false)) (omega (arith, c.if-at-self.false)))
  | else-self w ↦
      rw (w.nodes-is, w.if-self.false) (note-looks c.args.self.now.room c.args.nodes.now c.args.at (nd c.args.r c.args.p c.args.q c.args.d)
      (omega (arith, c.if-d-gt-DEEPEST.false)) (omega (arith, c.if-at-self.false)))
]
