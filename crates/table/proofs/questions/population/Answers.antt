use Rattle.table.proofs.QuestionsLaws.{nodes_read}
use Rattle.table.proofs.questions.population.Goals as goal

pub returns-in-Some : goal.returns-in-Some
returns-in-Some c = nodes_read c.args.s.now c.in-Some.table c.in-Some.ensures
