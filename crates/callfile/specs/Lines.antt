-- The line that a record prints.
use Rattle.std.specs.Prelude.{ℕ, cond, List, ◌++◌, Some, None, Ok, Err, codes, decimal, Option, Result, ◌==◌}
use Rattle.callfile.specs.Faults.{layer, number, detail}
use Rattle.callfile.specs.declared.fault.ReaderFault.{ReaderFault}
use Rattle.callfile.specs.declared.fault.ReaderFault.TheVariants.{Partial}
use Rattle.callfile.specs.declared.line.Answer.{Answer}
use Rattle.callfile.specs.declared.line.Line.{Line}

-- what a call answers that answers one number: the second value is 0
abbrev pub answer_of : ℕ → Answer
answer_of n = record { value = n; second = 0 }

-- what stands behind the record's number: the answer, or the refusal
abbrev pub told : Result Answer ReaderFault → List ℕ
told (Ok answer) = codes " ok " ++ (decimal answer.value ++ (codes " " ++ decimal answer.second))
told (Err fault) = codes " refused " ++ (decimal (layer fault) ++ (codes " " ++ (decimal (number fault) ++ (codes " " ++ decimal (detail fault)))))

-- base-ten numbers, with single spaces
abbrev pub text : Line → List ℕ
text line = decimal line.number ++ told line.result

-- the line of a record's number and result
abbrev pub line_of : ℕ → Result Answer ReaderFault → Line
line_of n r = record { number = n; result = r }

-- what is printed at the end of the file, of so many bytes that are left over
abbrev pub closing : ℕ → ℕ → Option Line
closing n left = cond (left == 0) None (Some (line_of n (Err (Partial left))))
