-- What bytes are asked to be, and which verdict is right.
use Rattle.std.specs.Prelude.{ℕ, List}
use Rattle.signature.specs.Trees.{Signature}
use Rattle.text.specs.Grammar.{Path, Member, Interface, IsBusName, Named}
use Rattle.text.specs.Texts.{Text}
use Rattle.lint.specs.declared.question.Kind.{Kind}
use Rattle.lint.specs.declared.question.Kind.TheVariants as asked
use Rattle.lint.specs.declared.verdict.Verdict.{Verdict}
use Rattle.lint.specs.declared.verdict.Verdict.TheVariants as told

abbrev pub Is : Kind → List ℕ → Type 0
Is asked.Signature bytes = Signature bytes
Is asked.Path bytes = Path bytes
Is asked.Member bytes = Member bytes
Is asked.Interface bytes = Interface bytes
Is asked.Error bytes = Interface bytes
Is asked.BusName bytes = IsBusName bytes
Is asked.Text bytes = Text bytes

-- a bus name is told as the kind that it is
abbrev pub Right : Kind → List ℕ → Verdict → Type 0
Right kind bytes told.No = Is kind bytes → ⊥
Right kind bytes told.Yes = Is kind bytes
Right kind bytes (told.Named name) = Is kind bytes × Named name bytes
