-- What a roll means.
use Rattle.std.specs.Prelude.{ℕ, List, vec_items}
use Rattle.mailbox.specs.Lists.{Lists, tabled}
use Rattle.roll_records.specs.Records.{Record, decode, messages}
use Rattle.roll.specs.declared.Roll.{Roll}

-- its records, in the order in which they were put
abbrev pub row : Roll → List Record
row s = decode s.records (vec_items s.area)

-- what waits, by connection
abbrev pub waits : Roll → ℕ → List (List ℕ)
waits s c = messages c (row s)

abbrev pub lists_of : Roll → Lists
lists_of s = tabled (waits s)

-- how many messages may wait for one connection
abbrev pub limit_of : Roll → ℕ
limit_of s = s.limit
