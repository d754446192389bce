-- What finding the forms of lines gives, line by line.
use Rattle.std.specs.Prelude.{◌≡◌, List, map, Vec, Result, Ok, Err}
use Rattle.std.specs.declared.alloc.Global.{Global}
use Rattle.gp_lex.specs.declared.line.LogicalLine.{LogicalLine}
use Rattle.gp_tree.specs.Form.{Form}
use Rattle.gp_form.specs.Forms.{SpellsForm}
use Rattle.gp_form.specs.LineSize.{IsTooBig}
use Rattle.gp_parse.specs.declared.form_line.FormLine.{FormLine}
use Rattle.gp_parse.specs.declared.parse_fault.ParseFault.{ParseFault}
use Rattle.gp_parse.specs.declared.parse_fault.ParseFault.TheVariants as fault
use Rattle.gp_parse.specs.FormLine.{line_of}
use Rattle.gp_parse.specs.Programs.{IsFormLine, HaveForms, IsTooBigAt, IsNoLineAt}

-- lines by their forms, or the first line that has none
abbrev pub FindsForms : List LogicalLine → Result (List FormLine) ParseFault → Type 0
FindsForms xs (Ok ys) = HaveForms xs (map line_of ys)
FindsForms xs (Err (fault.TooBig n)) = IsTooBigAt xs n
FindsForms xs (Err (fault.NotALine n)) = IsNoLineAt xs n
FindsForms xs (Err fault.Memory) = Unit {0}
FindsForms xs (Err (fault.Nesting n)) = ⊥
FindsForms xs (Err (fault.TooDeep n)) = ⊥

-- one line by its form
abbrev pub AnswersForm : LogicalLine → Result FormLine ParseFault → Type 0
AnswersForm x (Ok y) = IsFormLine x (line_of y) × ((form : Form) → SpellsForm x.tokens form → form ≡ (line_of y).form)
AnswersForm x (Err (fault.TooBig n)) = IsTooBig x.tokens × (n ≡ x.number)
AnswersForm x (Err (fault.NotALine n)) = (IsTooBig x.tokens → ⊥) × ((form : Form) → SpellsForm x.tokens form → ⊥) × (n ≡ x.number)
AnswersForm x (Err fault.Memory) = Unit {0}
AnswersForm x (Err (fault.Nesting n)) = ⊥
AnswersForm x (Err (fault.TooDeep n)) = ⊥

abbrev pub all_items : {A B : Type 0} → Result (Vec A Global) B → Result (List A) B
all_items (Ok v) = Ok v.items
all_items (Err e) = Err e
