-- `Table::search`: the whole search is what the machine finds from here, with the looks that are left.
use native.Mathlib.Omega.{arith}
use Rattle.std.proofs.lemmas.Result.{err_from_is_err_and}
use Rattle.table.proofs.SkipmapLaws.{looking_start, looking_out, looking_over, looking_bad, looking_halt, looking_onward, looking_ends, looking_down}
use Rattle.table.proofs.tested.Table.search.Goals.{in-Onward, in-Below+else-level-eq0}
use Rattle.table.proofs.tested.Table.search.Goals as goal

pub loop-looks-init : goal.loop-looks-init
loop-looks-init c = looking_start _ _ _ _ c.args.self.framed.header

pub returns-then-after-n : goal.returns-then-after-n
returns-then-after-n c = looking_over c.args.self.framed c.loop-looks.invariant c.loop-looks-test.true c.get_wide-after.ensures.0 c.if-after-n.true

pub returns-in_err-meet_at : goal.returns-in_err-meet_at
returns-in_err-meet_at c =
    let p = err_from_is_err_and c.from_residual.result c.from_residual.ensures.1 in
    rw (p.1, p.2) (looking_bad c.args.self.framed c.loop-looks.invariant c.loop-looks-test.true c.get_wide-after.ensures.0 c.if-after-n.false c.in_err-meet_at.ensures.is)

pub returns-in-Halt : goal.returns-in-Halt
returns-in-Halt c =
    looking_halt c.args.self.framed c.loop-looks.invariant c.loop-looks-test.true c.get_wide-after.ensures.0 c.if-after-n.false (rw c.in-Halt.is at c.in_ok-meet_at.ensures.is)

pub returns-then-level-eq0 : goal.returns-then-level-eq0
returns-then-level-eq0 c =
    looking_ends c.args.self.framed c.loop-looks.invariant c.loop-looks-test.true c.get_wide-after.ensures.0
    c.if-after-n.false (rw c.in-Below.is at c.in_ok-meet_at.ensures.is) c.if-level-eq0.true

pub loop-looks-preserved : goal.loop-looks-preserved
loop-looks-preserved c = elim c.match-branch-2.branch [
  | in-Onward w ↦ rw (w.places-is, w.before-is, w.links-is, w.level-is)
      (looking_onward c.args.self.framed c.loop-looks.invariant c.loop-looks-test.true c.get_wide-after.ensures.0 c.if-after-n.false
      (rw w.in-Onward.is at c.in_ok-meet_at.ensures.is) (rw w.in-Onward.is at c.in_ok-meet_at.ensures.links))
  | in-Below+else-level-eq0 w ↦ rw (w.places-is, w.before-is, w.links-is, w.level-is)
      (looking_down c.args.self.framed c.loop-looks.invariant c.loop-looks-test.true c.get_wide-after.ensures.0 c.if-after-n.false
      (rw w.in-Below.is at c.in_ok-meet_at.ensures.is) w.if-level-eq0.false)
]

pub returns : goal.returns
returns c = looking_out c.args.self.framed c.loop-looks.invariant (omega arith)
