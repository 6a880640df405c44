use Rattle.cm_class.specs.Reading.{answer_of, class_at}
use Rattle.cm_class.proofs.Shapes.{is_answer, one_answer}
use Rattle.cm_class.proofs.laws.each_input_has_one_answer.Goals as goal

pub returns-clause-some : goal.returns-clause-some
returns-clause-some c = λ bytes are. (answer_of bytes (class_at bytes), is_answer bytes are)

pub returns-clause-one : goal.returns-clause-one
returns-clause-one c = one_answer
