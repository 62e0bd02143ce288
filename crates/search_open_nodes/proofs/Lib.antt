mod HeldLemmas
