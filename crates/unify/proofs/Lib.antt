mod Success
