-- What a program is asked for.
use Rattle.std.specs.Prelude.{ℕ, ◌≡◌, ◌≢◌, List, Option, Some, None, Result, Ok, Err, codes}
use Rattle.std.specs.Borrow.{Bor}
use Rattle.console.specs.declared.Program.{Program}
use Rattle.console.specs.declared.Misuse.{Misuse}
use Rattle.console.specs.declared.Request.{Request}
use Rattle.console.specs.declared.Request.TheVariants.{Help, Work}

-- no argument asks for work, `--help` for help, and any other is misuse of the program
abbrev pub Asks : Program → Option (Bor (List ℕ)) → Result Request Misuse → Type 0
Asks program None r = r ≡ Ok Work
Asks program (Some word) (Ok request) = (word.now ≡ codes "--help") × (request ≡ Help)
Asks program (Some word) (Err misuse) = (word.now ≢ codes "--help") × (misuse.0 ≡ program)
