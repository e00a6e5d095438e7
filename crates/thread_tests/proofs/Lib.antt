mod FreshRounds
