use Rattle.ss_sentences.proofs.typed.+words_end.Given as goal

abbrev pub decreases-words_end : goal.decreases-words_end
decreases-words_end l = l.words
