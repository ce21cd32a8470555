mod GrowingFacts
