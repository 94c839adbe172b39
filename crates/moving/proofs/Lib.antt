mod Moving
