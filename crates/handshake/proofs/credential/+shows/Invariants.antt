use Rattle.handshake.proofs.credential.+shows.Given as goal

abbrev pub decreases-shows : goal.decreases-shows
decreases-shows l = l.uid
