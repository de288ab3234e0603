-- What is printed of a call.
use Rattle.std.specs.Prelude.{ℕ, List, ◌++◌, codes, decimal}
use Rattle.certificate.specs.declared.Report.{Report}

-- the name of a call, and the numbers of its report, a space before each
abbrev pub answer_text : List ℕ → Report → List ℕ
answer_text name r = name ++ (codes " " ++ (decimal r.number ++ (codes " " ++ (decimal r.a ++ (codes " " ++ (decimal r.b ++ (codes " " ++ decimal r.count)))))))
