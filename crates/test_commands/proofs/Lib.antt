mod CheckedLaw
