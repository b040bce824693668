-- `check::check`: the header first, then the pass over the nodes, then the walk along the chains, which decides.
use Rattle.table.proofs.CheckLaws.{bad_header, bad_nodes, whole_nodes, chains_decide}
use Rattle.table.proofs.check.check.Goals as goal

pub returns-in_default : goal.returns-in_default
returns-in_default c = bad_header _ (λ i. (c.type_inv.s i).fits) c.in_default.ensures

pub threads-requires : goal.threads-requires
threads-requires c =
    let framed = rw c.in-Some.ensures at c.in-Some.table.framed in
    let nodes = rw c.in-Some.ensures at c.nodes_run.ensures in
    rw c.in-Some.ensures (whole_nodes _ (λ i. (c.type_inv.s i).fits) framed nodes c.if-nodes_run.true)

pub returns-then-nodes_run : goal.returns-then-nodes_run
returns-then-nodes_run c =
    let framed = rw c.in-Some.ensures at c.in-Some.table.framed in
    let nodes = rw c.in-Some.ensures at c.nodes_run.ensures in
    chains_decide _ (λ i. (c.type_inv.s i).fits) framed nodes c.if-nodes_run.true (rw c.in-Some.ensures at c.threads.ensures)

pub returns-else-nodes_run : goal.returns-else-nodes_run
returns-else-nodes_run c =
    let framed = rw c.in-Some.ensures at c.in-Some.table.framed in
    bad_nodes _ (λ i. (c.type_inv.s i).fits) framed (rw c.in-Some.ensures at c.nodes_run.ensures) c.if-nodes_run.false
