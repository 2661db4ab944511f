use Rattle.signature.proofs.Spellings.{spelled_once}
use Rattle.signature.proofs.grammar.is_signature.Goals as goal

pub returns-clause-once : goal.returns-clause-once
returns-clause-once c = spelled_once
